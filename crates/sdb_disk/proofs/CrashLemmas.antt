-- What a crash fills, and what it leaves.
use Rattle.std.proofs.Common.{◌≡◌, ◌⊎◌, inl, inr, ⊎_elim, ℕ, ◌+◌, ◌-◌, ◌<◌, ◌≤◌, ◌==◌, min, true, false, List, [], ◌∷◌, ◌++◌, length, drop, get_or, refl, sym, ap, ◌∙◌, arith, Option, Some, None, if◌then◌else◌, replicate, append-nil, eq-eqb, IfSome}
use Rattle.std.proofs.lemmas.Bool.{cases_lt, ne_eqb}
use Rattle.std.proofs.lemmas.Bool.Decides.{eqb_tells}
use Rattle.std.proofs.lemmas.List.{get_or_past, drop_all, take_all, length-replicate, get_or-replicate}
use Rattle.sdb_disk.specs.declared.memory.Call.{Call}
use Rattle.sdb_disk.specs.declared.memory.Call.TheVariants.{Write, Cut, Sync}
use Rattle.sdb_disk.specs.Disk.{Files}
use Rattle.sdb_disk.specs.Past.{Unsynced, Leaves}
use Rattle.sdb_disk.specs.Crash.{range_filled, lost, crashed}
use Rattle.sdb_disk.specs.MemoryLaws.{if_true, if_false, Leaves-now}
use Rattle.sdb_disk.proofs.OverlayLemmas.{length-filled, get-before, get-middle, get-after}

module _ (content : List ℕ) (at n byte : ℕ) where
  abbrev middle : List ℕ
  middle = replicate (min n (length content - at)) byte

  middle_size : length middle ≡ min n (length content - at)
  middle_size = length-replicate (min n (length content - at)) byte

  -- past the end nothing is filled
  past_end : length content ≤ at → range_filled content at n byte ≡ content
  past_end past =
      let none : min n (length content - at) ≡ 0 = omega arith in
      ap (λ l. l ++ middle ++ drop (at + n) content) (take_all at content past)
      ∙ ap (λ l. content ++ middle ++ l) (drop_all (at + n) content (omega arith))
      ∙ append-nil (content ++ middle)
      ∙ ap (λ m. content ++ replicate m byte) none
      ∙ append-nil content

  pub length-range_filled : length (range_filled content at n byte) ≡ length content
  length-range_filled = elim (cases_lt at (length content)) [
    | inl inside ↦ omega (arith, length-filled content at (omega arith) middle n, middle_size)
    | inr past ↦ ap length (past_end past)
  ]

  pub get-range_filled_in : (j : ℕ) → at ≤ j → j < at + n → j < length content → get_or (range_filled content at n byte) j 0 ≡ byte
  get-range_filled_in j from to below =
      get-middle content at (omega arith) middle n j from (omega (arith, middle_size))
      ∙ get_or-replicate (min n (length content - at)) (j - at) byte 0 (omega arith)

  pub get-range_filled_out : (j : ℕ) → (j < at) ⊎ (at + n ≤ j) → get_or (range_filled content at n byte) j 0 ≡ get_or content j 0
  get-range_filled_out j apart = elim (cases_lt at (length content)) [
    | inr past ↦ ap (λ l. get_or l j 0) (past_end past)
    | inl inside ↦ ⊎_elim
        (λ left. get-before content at (omega arith) middle n j left)
        (λ right. elim (cases_lt j (length content)) [
          | inl below ↦
              let place : j - length middle + n ≡ j = omega (arith, middle_size) in
              get-after content at (omega arith) middle n j (omega (arith, middle_size)) ∙ ap (λ i. get_or content i 0) place
          | inr behind ↦
              get_or_past (range_filled content at n byte) j 0 (omega (arith, length-range_filled)) ∙ sym (get_or_past content j 0 behind)
        ])
        apart
  ]

-- the content after one call was looked at
abbrev after_write : ℕ → ℕ → ℕ → ℕ → ℕ → List ℕ → List ℕ
after_write byte file f at n content = if file == f then range_filled content at n byte else content

length-after_write : (byte file f at n : ℕ) (content : List ℕ) → length (after_write byte file f at n content) ≡ length content
length-after_write byte file f at n content = elim (eqb_tells file f) [
  | inl here ↦ ap length (if_true (file == f) _ _ here.0) ∙ length-range_filled content at n byte
  | inr other ↦ ap length (if_false (file == f) _ _ other.0)
]

pub length-lost : (byte file : ℕ) (calls : List Call) (content : List ℕ) → length (lost byte file calls content) ≡ length content
length-lost byte file [] content = refl
length-lost byte file (Write f at n was ∷ earlier) content = length-lost byte file earlier (after_write byte file f at n content) ∙ length-after_write byte file f at n content
length-lost byte file (Cut f len was ∷ earlier) content = length-lost byte file earlier content
length-lost byte file (Sync f ∷ earlier) content = elim (eqb_tells file f) [
  | inl here ↦ ap length (if_true (file == f) _ _ here.0)
  | inr other ↦ ap length (if_false (file == f) _ _ other.0) ∙ length-lost byte file earlier content
]

-- what is synced stays
pub lost_outside : (byte file : ℕ) (calls : List Call) (content : List ℕ) (j : ℕ) → (Unsynced calls file j → ⊥) → get_or (lost byte file calls content) j 0 ≡ get_or content j 0
lost_outside byte file [] content j synced = refl
lost_outside byte file (Write f at n was ∷ earlier) content j synced =
    lost_outside byte file earlier (after_write byte file f at n content) j (λ unsynced. synced (inr unsynced)) ∙ elim (eqb_tells file f) [
      | inl here ↦ ap (λ l. get_or l j 0) (if_true (file == f) _ _ here.0) ∙ elim (cases_lt j at) [
        | inl left ↦ get-range_filled_out content at n byte j (inl left)
        | inr from ↦ elim (cases_lt j (at + n)) [
          | inl to ↦ absurd (synced (inl (here.1, from, to)))
          | inr right ↦ get-range_filled_out content at n byte j (inr right)
        ]
      ]
      | inr other ↦ ap (λ l. get_or l j 0) (if_false (file == f) _ _ other.0)
    ]
lost_outside byte file (Cut f len was ∷ earlier) content j synced = lost_outside byte file earlier content j synced
lost_outside byte file (Sync f ∷ earlier) content j synced = elim (eqb_tells file f) [
  | inl here ↦ ap (λ l. get_or l j 0) (if_true (file == f) _ _ here.0)
  | inr other ↦ ap (λ l. get_or l j 0) (if_false (file == f) _ _ other.0) ∙ lost_outside byte file earlier content j (λ unsynced. synced (other.1, unsynced))
]

-- a place that holds the byte goes on holding it
keeps_write : (byte file f at n : ℕ) (content : List ℕ) (j : ℕ) → j < length content → get_or content j 0 ≡ byte → get_or (after_write byte file f at n content) j 0 ≡ byte
keeps_write byte file f at n content j below holds = elim (eqb_tells file f) [
  | inl here ↦ ap (λ l. get_or l j 0) (if_true (file == f) _ _ here.0) ∙ elim (cases_lt j at) [
    | inl left ↦ get-range_filled_out content at n byte j (inl left) ∙ holds
    | inr from ↦ elim (cases_lt j (at + n)) [
      | inl to ↦ get-range_filled_in content at n byte j from to below
      | inr right ↦ get-range_filled_out content at n byte j (inr right) ∙ holds
    ]
  ]
  | inr other ↦ ap (λ l. get_or l j 0) (if_false (file == f) _ _ other.0) ∙ holds
]

keeps : (byte file : ℕ) (calls : List Call) (content : List ℕ) (j : ℕ) → j < length content → get_or content j 0 ≡ byte → get_or (lost byte file calls content) j 0 ≡ byte
keeps byte file [] content j below holds = holds
keeps byte file (Write f at n was ∷ earlier) content j below holds =
    keeps byte file earlier (after_write byte file f at n content) j (omega (arith, length-after_write byte file f at n content)) (keeps_write byte file f at n content j below holds)
keeps byte file (Cut f len was ∷ earlier) content j below holds = keeps byte file earlier content j below holds
keeps byte file (Sync f ∷ earlier) content j below holds = elim (eqb_tells file f) [
  | inl here ↦ ap (λ l. get_or l j 0) (if_true (file == f) _ _ here.0) ∙ holds
  | inr other ↦ ap (λ l. get_or l j 0) (if_false (file == f) _ _ other.0) ∙ keeps byte file earlier content j below holds
]

-- each place that isn't synced holds the byte
pub lost_inside : (byte file : ℕ) (calls : List Call) (content : List ℕ) (j : ℕ) → j < length content → Unsynced calls file j → get_or (lost byte file calls content) j 0 ≡ byte
lost_inside byte file [] content j below unsynced = absurd unsynced
lost_inside byte file (Write f at n was ∷ earlier) content j below (inl here) =
    let test : (file == f) ≡ true = eq-eqb file f here.0 in
    keeps byte file earlier (after_write byte file f at n content) j (omega (arith, length-after_write byte file f at n content))
    (ap (λ l. get_or l j 0) (if_true (file == f) _ _ test) ∙ get-range_filled_in content at n byte j here.1 here.2 below)
lost_inside byte file (Write f at n was ∷ earlier) content j below (inr past) =
    lost_inside byte file earlier (after_write byte file f at n content) j (omega (arith, length-after_write byte file f at n content)) past
lost_inside byte file (Cut f len was ∷ earlier) content j below unsynced = lost_inside byte file earlier content j below unsynced
lost_inside byte file (Sync f ∷ earlier) content j below unsynced =
    let test : (file == f) ≡ false = ne_eqb file f unsynced.0 in
    ap (λ l. get_or l j 0) (if_false (file == f) _ _ test) ∙ lost_inside byte file earlier content j below unsynced.1

pub length-crashed : (fill : Option ℕ) (file : ℕ) (calls : List Call) (content : List ℕ) → length (crashed fill file calls content) ≡ length content
length-crashed None file calls content = refl
length-crashed (Some byte) file calls content = length-lost byte file calls content

pub crashed_outside : (fill : Option ℕ) (file : ℕ) (calls : List Call) (content : List ℕ) (j : ℕ) → (Unsynced calls file j → ⊥) → get_or (crashed fill file calls content) j 0 ≡ get_or content j 0
crashed_outside None file calls content j synced = refl
crashed_outside (Some byte) file calls content j synced = lost_outside byte file calls content j synced

-- the outcome is one that a crash may leave
pub crashed_leaves : (fill : Option ℕ) (files : Files) (calls : List Call) (k : ℕ) → Leaves files calls k (crashed fill k calls (files k))
crashed_leaves fill files calls k = Leaves-now files calls k _ (record {
  size = length-crashed fill k calls (files k);
  same = λ j below synced. crashed_outside fill k calls (files k) j synced;
})

pub crashed_inside : (fill : Option ℕ) (files after : Files) (calls : List Call) → ((k : ℕ) → after k ≡ crashed fill k calls (files k))
    → IfSome fill (λ byte. (k j : ℕ) → j < length (files k) → Unsynced calls k j → get_or (after k) j 0 ≡ byte)
crashed_inside None files after calls left = tt
crashed_inside (Some byte) files after calls left = λ k j below unsynced. ap (λ l. get_or l j 0) (left k) ∙ lost_inside byte k calls (files k) j below unsynced
