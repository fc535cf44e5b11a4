-- Bytes written over others, and back.
use Rattle.std.proofs.Common.{◌≡◌, ◌⊎◌, inl, inr, ⊎_elim, ℕ, ◌+◌, ◌-◌, ◌<◌, ◌≤◌, min, max, List, ◌∷◌, ◌++◌, length, take, drop, get_or, sym, ap, ◌∙◌, arith, append_assoc, length-append, length-take, length-drop, take-append-drop, Vec}
use Rattle.std.proofs.lemmas.Bool.{cases_lt}
use Rattle.std.proofs.lemmas.List.{take_at, drop_at, take_all, drop_all, drop-drop, get_or_append_left, get_or-append_right, get_or-take, get_or-drop}
use Rattle.std.specs.declared.alloc.Global.{Global}
use Rattle.sdb_disk.specs.declared.memory.Call.{Call}
use Rattle.sdb_disk.specs.declared.memory.Call.TheVariants.{Write, Cut}
use Rattle.sdb_disk.specs.Disk.{overlaid, Torn, CutTo}
use Rattle.sdb_disk.specs.Past.{Unsynced, Alike}

-- x, of which n bytes are replaced by others from a place on
abbrev pub filled : List ℕ → ℕ → List ℕ → ℕ → List ℕ
filled x at middle n = take at x ++ middle ++ drop (at + n) x

module _ (x : List ℕ) (at : ℕ) (within : at ≤ length x) where
  front_size : length (take at x) ≡ at
  front_size = omega (arith, length-take at x)

  pub length-filled : (middle : List ℕ) (n : ℕ) → length (filled x at middle n) ≡ at + length middle + (length x - (at + n))
  length-filled middle n = omega (arith, front_size, length-append (take at x ++ middle) (drop (at + n) x), length-append (take at x) middle, length-drop (at + n) x)

  seam : (middle : List ℕ) → length (take at x ++ middle) ≡ at + length middle
  seam middle = omega (arith, front_size, length-append (take at x) middle)

  pub filled-before : (middle : List ℕ) (n : ℕ) → take at (filled x at middle n) ≡ take at x
  filled-before middle n = ap (take at) (append_assoc (take at x) middle (drop (at + n) x)) ∙ take_at (take at x) (middle ++ drop (at + n) x) at front_size

  pub filled-after : (middle : List ℕ) (n : ℕ) → drop (at + length middle) (filled x at middle n) ≡ drop (at + n) x
  filled-after middle n = drop_at (take at x ++ middle) (drop (at + n) x) (at + length middle) (seam middle)

  pub get-before : (middle : List ℕ) (n j : ℕ) → j < at → get_or (filled x at middle n) j 0 ≡ get_or x j 0
  get-before middle n j below =
      get_or_append_left (take at x ++ middle) (drop (at + n) x) 0 j (omega (arith, seam middle))
      ∙ get_or_append_left (take at x) middle 0 j (omega (arith, front_size))
      ∙ get_or-take at x j 0 below

  pub get-middle : (middle : List ℕ) (n j : ℕ) → at ≤ j → j < at + length middle → get_or (filled x at middle n) j 0 ≡ get_or middle (j - at) 0
  get-middle middle n j from to =
      get_or_append_left (take at x ++ middle) (drop (at + n) x) 0 j (omega (arith, seam middle))
      ∙ get_or-append_right (take at x) middle at j 0 front_size from

  pub get-after : (middle : List ℕ) (n j : ℕ) → at + length middle ≤ j → get_or (filled x at middle n) j 0 ≡ get_or x (j - length middle + n) 0
  get-after middle n j from =
      let place : at + n + (j - (at + length middle)) ≡ j - length middle + n = omega arith in
      get_or-append_right (take at x ++ middle) (drop (at + n) x) (at + length middle) j 0 (seam middle) from
      ∙ get_or-drop (at + n) x (j - (at + length middle)) 0
      ∙ ap (λ i. get_or x i 0) place

-- a write
module _ (x : List ℕ) (at : ℕ) (bytes : List ℕ) (within : at ≤ length x) where
  pub length-overlaid : length (overlaid x at bytes) ≡ max (length x) (at + length bytes)
  length-overlaid = omega (arith, length-filled x at within bytes (length bytes))

  pub torn_overlaid : Torn at (length bytes) x (overlaid x at bytes)
  torn_overlaid = record {
    before = filled-before x at within bytes (length bytes);
    after = filled-after x at within bytes (length bytes);
    no_shorter = omega (arith, length-overlaid);
    no_longer = omega (arith, length-overlaid);
  }

  abbrev was_bytes : List ℕ
  was_bytes = take (length bytes) (drop at x)

  was_length : length was_bytes ≡ min (length bytes) (length x - at)
  was_length = omega (arith, length-take (length bytes) (drop at x), length-drop at x)

  pub undo_overlaid : filled (overlaid x at bytes) at was_bytes (length bytes) ≡ x
  undo_overlaid =
      let n = length bytes in
      let now = overlaid x at bytes in
      ap (λ l. l ++ was_bytes ++ drop (at + n) now) (filled-before x at within bytes n)
      ∙ ap (λ l. take at x ++ was_bytes ++ l) (filled-after x at within bytes n)
      ∙ append_assoc (take at x) was_bytes (drop (at + n) x)
      ∙ ap (λ l. take at x ++ (was_bytes ++ l)) (sym (drop-drop n at x))
      ∙ ap (λ l. take at x ++ l) (take-append-drop n (drop at x))
      ∙ take-append-drop at x

  -- bytes that are alike after the write are a torn write of bytes that were alike before it
  module _ (file : ℕ) (was : Vec ℕ Global) (kept : was.items ≡ take (length bytes) (drop at x)) (earlier : List Call) (c : List ℕ)
      (alike : Alike (Write file at (length bytes) was ∷ earlier) file (overlaid x at bytes) c) where
    size : length c ≡ max (length x) (at + length bytes)
    size = alike.size ∙ length-overlaid

    fits : at ≤ length c
    fits = omega (arith, size)

    kept_length : length was.items ≡ min (length bytes) (length x - at)
    kept_length = ap length kept ∙ was_length

    abbrev undone_bytes : List ℕ
    undone_bytes = filled c at was.items (length bytes)

    undone_length : length undone_bytes ≡ length x
    undone_length = omega (arith, length-filled c at fits was.items (length bytes), kept_length, size)

    outside : (j : ℕ) → j < length x → (j < at) ⊎ (at + length bytes ≤ j) → (Unsynced earlier file j → ⊥) → get_or c j 0 ≡ get_or (overlaid x at bytes) j 0
    outside j below apart synced = alike.same j (omega (arith, length-overlaid)) (λ unsynced. ⊎_elim
        (λ here. ⊎_elim (λ left. absurd (omega (arith, left, here.1))) (λ right. absurd (omega (arith, right, here.2))) apart) synced unsynced)

    undone_same : (j : ℕ) → j < length x → (Unsynced earlier file j → ⊥) → get_or undone_bytes j 0 ≡ get_or x j 0
    undone_same j below synced = elim (cases_lt j at) [
      | inl left ↦ get-before c at fits was.items (length bytes) j left ∙ outside j below (inl left) synced ∙ get-before x at within bytes (length bytes) j left
      | inr from ↦ elim (cases_lt j (at + length bytes)) [
        | inl to ↦
            let place : at + (j - at) ≡ j = omega arith in
            get-middle c at fits was.items (length bytes) j from (omega (arith, kept_length))
            ∙ ap (λ l. get_or l (j - at) 0) kept
            ∙ get_or-take (length bytes) (drop at x) (j - at) 0 (omega arith)
            ∙ get_or-drop at x (j - at) 0
            ∙ ap (λ i. get_or x i 0) place
        | inr right ↦
            let place : j - length was.items + length bytes ≡ j = omega (arith, kept_length) in
            let place' : j - length bytes + length bytes ≡ j = omega arith in
            get-after c at fits was.items (length bytes) j (omega (arith, kept_length))
            ∙ ap (λ i. get_or c i 0) place
            ∙ outside j below (inr right) synced
            ∙ get-after x at within bytes (length bytes) j right
            ∙ ap (λ i. get_or x i 0) place'
      ]
    ]

    pub alike_before : Alike earlier file x undone_bytes
    alike_before = record { size = undone_length; same = undone_same }

    behind : drop (at + length bytes) c ≡ drop (at + length bytes) undone_bytes
    behind = elim (cases_lt (length x) (at + length bytes)) [
      | inl past ↦ drop_all (at + length bytes) c (omega (arith, size)) ∙ sym (drop_all (at + length bytes) undone_bytes (omega (arith, undone_length)))
      | inr inner ↦
          let whole : at + length was.items ≡ at + length bytes = omega (arith, kept_length) in
          sym (ap (λ i. drop i undone_bytes) (sym whole) ∙ filled-after c at fits was.items (length bytes))
    ]

    pub torn_from : Torn at (length bytes) undone_bytes c
    torn_from = record {
      before = sym (filled-before c at fits was.items (length bytes));
      after = behind;
      no_shorter = omega (arith, undone_length, size);
      no_longer = omega (arith, undone_length, size);
    }

-- a cut
module _ (x : List ℕ) (len : ℕ) (within : len ≤ length x) (file : ℕ) (was : Vec ℕ Global) (kept : was.items ≡ drop len x) (earlier : List Call) (c : List ℕ)
    (alike : Alike (Cut file len was ∷ earlier) file (take len x) c) where
  cut_size : length c ≡ len
  cut_size = omega (arith, alike.size, length-take len x)

  cut_undone_length : length (c ++ was.items) ≡ length x
  cut_undone_length = omega (arith, length-append c was.items, ap length kept, length-drop len x, cut_size)

  cut_undone_same : (j : ℕ) → j < length x → (Unsynced earlier file j → ⊥) → get_or (c ++ was.items) j 0 ≡ get_or x j 0
  cut_undone_same j below synced = elim (cases_lt j len) [
    | inl front ↦ get_or_append_left c was.items 0 j (omega (arith, cut_size)) ∙ alike.same j (omega (arith, length-take len x)) synced ∙ get_or-take len x j 0 front
    | inr behind ↦
        let place : len + (j - len) ≡ j = omega arith in
        get_or-append_right c was.items len j 0 cut_size behind ∙ ap (λ l. get_or l (j - len) 0) kept ∙ get_or-drop len x (j - len) 0 ∙ ap (λ i. get_or x i 0) place
  ]

  pub cut_alike_before : Alike earlier file x (c ++ was.items)
  cut_alike_before = record { size = cut_undone_length; same = cut_undone_same }

  pub cut_from : CutTo len (c ++ was.items) c
  cut_from = record {
    front = take_all len c (omega (arith, cut_size)) ∙ sym (take_at c was.items len cut_size);
    no_longer = omega (arith, length-append c was.items);
  }
