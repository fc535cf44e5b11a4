-- What an append's two writes leave of the journal's file.
use Rattle.std.proofs.Common.{◌≡◌, ◌≢◌, ◌⊎◌, inl, inr, ℕ, suc, ◌+◌, ◌-◌, ◌≤◌, ◌<◌, IsTrue, List, [], ◌∷◌, ◌++◌, length, take, drop, get_or, set, refl, sym, ◌∙◌, ap, subst, append_assoc, append-nil, arith}
use Rattle.std.proofs.Math.Seq.{take-append_seam, drop-append_seam, drop-cons, set-append_seam}
use Rattle.std.proofs.lemmas.List.{length-append, length-drop, length-take-le, take-append-drop, drop_all, drop-set-add}
use Rattle.std.proofs.lemmas.Bool.{cases_eq}
use Rattle.sdb_disk.specs.Disk.{Files, State, Torn, Patches, PatchedIn, LeavesOnly, Elapses, overlaid}
use Rattle.sdb_disk.proofs.CallLemmas.{LeavesOnly-weaker, LeavesOnly-trans, SameFile-trans}
use Rattle.sdb_record.specs.Journals.{header, blocks, entry, next, Stands}
use Rattle.sdb_journal.specs.Places.{Place, number_after, IsAt}
use Rattle.sdb_journal.specs.Appends.{body_of, BeforeOrAfter, Appended}

pub header_size : (generation first : ℕ) → length (header generation first) ≡ 25
unfolding header
header_size generation first = refl

-- the last byte of a frame set
end_set : (l : List ℕ) (i : ℕ) → length l ≡ i + 1 → set l i 0 ≡ take i l ++ (0 ∷ [])
end_set l i size =
    let there : i < length l = omega arith in
    let whole : take i l ++ (get_or l i 0 ∷ []) ≡ l =
    ap (λ t. take i l ++ (get_or l i 0 ∷ t)) (sym (drop_all (suc i) l (omega arith))) ∙ ap (λ t. take i l ++ t) (sym (drop-cons l i 0 there)) ∙ take-append-drop i l in
    let long : length (take i l) ≡ i = length-take-le i l (omega arith) in
    (λ k. set (sym whole k) (sym long k) 0) ∙ set-append_seam (take i l) (get_or l i 0) [] 0

pub body_size : (frame : List ℕ) → 13 ≤ length frame → length (body_of frame) ≡ length frame - 13
body_size frame least = length-take-le (length frame - 13) (drop 12 frame) (omega (arith, length-drop 12 frame))

pub frame_end : (frame : List ℕ) → 13 ≤ length frame → drop 12 (set frame (length frame - 1) 0) ≡ body_of frame ++ (0 ∷ [])
frame_end frame least =
    let last : length frame - 1 ≡ 12 + (length frame - 13) = omega arith in
    ap (λ n. drop 12 (set frame n 0)) last
    ∙ drop-set-add 12 frame (length frame - 13) 0
    ∙ end_set (drop 12 frame) (length frame - 13) (omega (arith, length-drop 12 frame))

-- one record more
pub blocks-append : (n : ℕ) (bodies : List (List ℕ)) (body : List ℕ) → blocks n (bodies ++ body ∷ []) ≡ blocks n bodies ++ (1 ∷ entry (next (number_after n bodies)) body)
blocks-append n [] body = ap (λ l. 1 ∷ l) (append-nil (entry (next n) body))
blocks-append n (b ∷ bodies) body =
    ap (λ l. 1 ∷ (entry (next n) b ++ l)) (blocks-append (next n) bodies body)
    ∙ ap (λ l. 1 ∷ l) (sym (append_assoc (entry (next n) b) (blocks (next n) bodies) (1 ∷ entry (next (number_after (next n) bodies)) body)))

pub number_after-append : (n : ℕ) (bodies : List (List ℕ)) (body : List ℕ) → number_after n (bodies ++ body ∷ []) ≡ next (number_after n bodies)
number_after-append n [] body = refl
number_after-append n (b ∷ bodies) body = number_after-append (next n) bodies body

module _ (place : Place) (bodies : List (List ℕ)) (old : List ℕ) (at : IsAt place bodies old) where
  abbrev front : List ℕ
  front = header place.generation place.first ++ blocks place.first bodies

  front_size : length front ≡ place.gate
  front_size = length-append (header place.generation place.first) (blocks place.first bodies) ∙ ap (λ n. n + length (blocks place.first bodies)) (header_size place.generation place.first) ∙ sym at.gate_is

  old_is : old ≡ front ++ (at.stands.gate ∷ at.stands.rest)
  old_is = at.stands.file_is ∙ sym (append_assoc (header place.generation place.first) (blocks place.first bodies) (at.stands.gate ∷ at.stands.rest))

  -- any file with that front and a gate that isn't open
  with_front : (c : List ℕ) (gate : ℕ) (rest : List ℕ) → gate ≢ 1 → c ≡ front ++ (gate ∷ rest) → Stands place.generation place.first bodies c
  with_front c gate rest closed is = record {
    gate = gate;
    rest = rest;
    file_is = is ∙ append_assoc (header place.generation place.first) (blocks place.first bodies) (gate ∷ rest);
    closed = closed;
  }

  -- the front and the closed gate
  gated : List ℕ
  gated = front ++ (at.stands.gate ∷ [])

  gated_size : length gated ≡ place.gate + 1
  unfolding gated
  gated_size = omega (arith, length-append front (at.stands.gate ∷ []), front_size)

  old_gated : old ≡ gated ++ at.stands.rest
  unfolding gated
  old_gated = old_is ∙ sym (append_assoc front (at.stands.gate ∷ []) at.stands.rest)

  take_gated : take (place.gate + 1) old ≡ gated
  take_gated = (λ k. take (sym gated_size k) (old_gated k)) ∙ take-append_seam gated at.stands.rest

  pub gate_there : place.gate < length old
  gate_there = omega (arith, gated_size, ap length old_gated, length-append gated at.stands.rest)

  -- the first write may be torn: the gate stays closed
  pub first_torn : (n : ℕ) (c : List ℕ) → Torn (place.gate + 1) n old c → Stands place.generation place.first bodies c
  unfolding gated
  first_torn n c torn =
      with_front c at.stands.gate (drop (place.gate + 1) c) at.stands.closed
      (sym (take-append-drop (place.gate + 1) c) ∙ ap (λ l. l ++ drop (place.gate + 1) c) (torn.before ∙ take_gated) ∙ append_assoc front (at.stands.gate ∷ []) (drop (place.gate + 1) c))

  module _ (body frame mid : List ℕ) (frame_is : frame ≡ entry (next place.sequence) body ++ (0 ∷ [])) (mid_is : mid ≡ overlaid old (place.gate + 1) frame) where
    abbrev record_bytes : List ℕ
    record_bytes = entry (next place.sequence) body

    tail : List ℕ
    tail = drop (place.gate + 1 + length frame) old

    abbrev behind : List ℕ
    behind = record_bytes ++ (0 ∷ tail)

    mid_gated : mid ≡ gated ++ behind
    unfolding tail
    mid_gated =
        mid_is ∙ append_assoc (take (place.gate + 1) old) frame tail
        ∙ (λ k. take_gated k ++ (frame_is k ++ tail))
        ∙ ap (λ l. gated ++ l) (append_assoc record_bytes (0 ∷ []) tail)

    mid_drop : drop (place.gate + 1) mid ≡ behind
    mid_drop = (λ k. drop (sym gated_size k) (mid_gated k)) ∙ drop-append_seam gated behind

    mid_take : take place.gate mid ≡ front
    unfolding gated
    mid_take = (λ k. take (sym front_size k) ((mid_gated ∙ append_assoc front (at.stands.gate ∷ []) behind) k)) ∙ take-append_seam front (at.stands.gate ∷ behind)

    pub mid_long : place.gate < length mid
    mid_long = omega (arith, gated_size, ap length mid_gated, length-append gated behind)

    -- any file with that front, any gate, and the record behind it
    opened : (c : List ℕ) (gate : ℕ) → gate ≡ 1 → c ≡ front ++ (gate ∷ behind) → Stands place.generation place.first (bodies ++ body ∷ []) c
    opened c gate is_open is = record {
      gate = 0;
      rest = tail;
      file_is =
          is ∙ ap (λ x. front ++ (x ∷ behind)) is_open
          ∙ append_assoc (header place.generation place.first) (blocks place.first bodies) (1 ∷ behind)
          ∙ ap (λ l. header place.generation place.first ++ l)
          (sym (append_assoc (blocks place.first bodies) (1 ∷ record_bytes) (0 ∷ tail))
          ∙ ap (λ l. l ++ (0 ∷ tail)) (ap (λ n. blocks place.first bodies ++ (1 ∷ entry (next n) body)) at.sequence_is ∙ sym (blocks-append place.first bodies body)));
      closed = λ e. absurd (omega (arith, e));
    }

    -- the second write may be torn: the gate is what it was, or open, or anything else
    pub second_torn : (c : List ℕ) → Torn place.gate 1 mid c → Stands place.generation place.first bodies c ⊎ Stands place.generation place.first (bodies ++ body ∷ []) c
    second_torn c torn = by (cases_eq (get_or c place.gate 0) 1)
      where
        there : place.gate < length c
        there = omega (arith, mid_long, torn.no_shorter)

        one_on : suc place.gate ≡ place.gate + 1
        one_on = omega arith

        is : c ≡ front ++ (get_or c place.gate 0 ∷ behind)
        is =
            sym (take-append-drop place.gate c)
            ∙ (λ k. (torn.before ∙ mid_take) k ++ (drop-cons c place.gate 0 there ∙ ap (λ n. get_or c place.gate 0 ∷ drop n c) one_on ∙ ap (λ l. get_or c place.gate 0 ∷ l) (torn.after ∙ mid_drop)) k)

        by : (get_or c place.gate 0 ≡ 1) ⊎ (get_or c place.gate 0 ≡ 1 → ⊥) → Stands place.generation place.first bodies c ⊎ Stands place.generation place.first (bodies ++ body ∷ []) c
        by (inl is_open) = inr (opened c (get_or c place.gate 0) is_open is)
        by (inr closed) = inl (with_front c (get_or c place.gate 0) behind closed is)

    -- both writes done
    pub both_done : (new : List ℕ) (after : Place) → new ≡ overlaid mid place.gate (1 ∷ []) → after.generation ≡ place.generation → after.first ≡ place.first
        → after.gate ≡ place.gate + length frame → after.sequence ≡ next place.sequence → IsAt after (bodies ++ body ∷ []) new
    both_done new after new_is generation first gate sequence = record {
      stands = let P : ℕ → ℕ → Type 0 = λ g f. Stands g f (bodies ++ body ∷ []) new in
          subst (λ g. P g after.first) (sym generation) (subst (P place.generation) (sym first) (opened new 1 refl (new_is ∙ append_assoc (take place.gate mid) (1 ∷ []) (drop (place.gate + 1) mid) ∙ (λ k. mid_take k ++ (1 ∷ mid_drop k)))));
      gate_is =
          omega (
            arith,
            gate,
            at.gate_is,
            ap length frame_is,
            length-append record_bytes (0 ∷ []),
            ap (λ f. length (blocks f (bodies ++ body ∷ []))) first,
            ap length (blocks-append place.first bodies body),
            length-append (blocks place.first bodies) (1 ∷ entry (next (number_after place.first bodies)) body),
            ap (λ n. length (entry (next n) body)) at.sequence_is,
          );
      sequence_is = sequence ∙ ap next at.sequence_is ∙ sym (number_after-append place.first bodies body) ∙ ap (λ f. number_after f (bodies ++ body ∷ [])) (sym first);
    }

-- ---- on the disk
module _ (file : ℕ) (place : Place) (bodies : List (List ℕ)) (body frame : List ℕ) (a m : State) (at : IsAt place bodies (a.seen file)) where
  abbrev Leaves : Files → Type 0
  Leaves = BeforeOrAfter file place.generation place.first bodies body a

  pub first_leaves : LeavesOnly a m (PatchedIn file (place.gate + 1) (length frame) a) → LeavesOnly a m Leaves
  first_leaves leaves =
      LeavesOnly-weaker a m (PatchedIn file (place.gate + 1) (length frame) a) Leaves leaves
      (λ c patched. record { own = inl (first_torn place bodies (a.seen file) at (length frame) (c file) patched.patched); others = patched.others })

  module _ (b : State) (frame_is : frame ≡ entry (next place.sequence) body ++ (0 ∷ [])) (told : IsTrue a.told) (first : Patches file (place.gate + 1) frame a m) where
    second_leaves : LeavesOnly m b (PatchedIn file place.gate 1 m) → LeavesOnly m b Leaves
    second_leaves leaves =
        LeavesOnly-weaker m b (PatchedIn file place.gate 1 m) Leaves leaves
        (λ c patched. record {
          own = second_torn place bodies (a.seen file) at body frame (m.seen file) frame_is (first.written told) (c file) patched.patched;
          others = λ k other. (first.others k other).no_more (c k) (patched.others k other);
        })

    pub both_leave : Elapses a m → Elapses m b → LeavesOnly a m (PatchedIn file (place.gate + 1) (length frame) a) → LeavesOnly m b (PatchedIn file place.gate 1 m) → LeavesOnly a b Leaves
    both_leave early late leaves then_leaves = LeavesOnly-trans a m b Leaves early.later late (first_leaves leaves) (second_leaves then_leaves)

    pub appended : (after : Place) → IsTrue m.told → Patches file place.gate (1 ∷ []) m b → after.generation ≡ place.generation → after.first ≡ place.first
        → after.gate ≡ place.gate + length frame → after.sequence ≡ next place.sequence → Appended file after (bodies ++ body ∷ []) a b
    appended after told_still second generation same_first gate sequence = record {
      at = both_done place bodies (a.seen file) at body frame (m.seen file) frame_is (first.written told) (b.seen file) after (second.written told_still) generation same_first gate sequence;
      settled = second.settled;
      others = λ k other. SameFile-trans a m b k (first.others k other) (second.others k other);
    }

-- ---- the same, said of the gate and the number that the call is given
module _ (file gate number : ℕ) (body frame : List ℕ) (a m : State) (place : Place) (bodies : List (List ℕ)) (gate_is : place.gate ≡ gate) (number_is : number ≡ next place.sequence)
    (at : IsAt place bodies (a.seen file)) where
  pub first_leaves_at : LeavesOnly a m (PatchedIn file (gate + 1) (length frame) a) → LeavesOnly a m (BeforeOrAfter file place.generation place.first bodies body a)
  first_leaves_at leaves = first_leaves file place bodies body frame a m at (subst (λ n. LeavesOnly a m (PatchedIn file (n + 1) (length frame) a)) (sym gate_is) leaves)

  module _ (b : State) (frame_is : frame ≡ entry number body ++ (0 ∷ [])) (told : IsTrue a.told) (first : Patches file (gate + 1) frame a m) where
    framed : frame ≡ entry (next place.sequence) body ++ (0 ∷ [])
    framed = frame_is ∙ ap (λ n. entry n body ++ (0 ∷ [])) number_is

    patched : Patches file (place.gate + 1) frame a m
    patched = subst (λ n. Patches file (n + 1) frame a m) (sym gate_is) first

    pub both_leave_at : Elapses a m → Elapses m b → LeavesOnly a m (PatchedIn file (gate + 1) (length frame) a) → LeavesOnly m b (PatchedIn file gate 1 m)
        → LeavesOnly a b (BeforeOrAfter file place.generation place.first bodies body a)
    both_leave_at early late leaves then_leaves =
        both_leave file place bodies body frame a m at b framed told patched early late
        (subst (λ n. LeavesOnly a m (PatchedIn file (n + 1) (length frame) a)) (sym gate_is) leaves)
        (subst (λ n. LeavesOnly m b (PatchedIn file n 1 m)) (sym gate_is) then_leaves)

    pub appended_at : (after : Place) → IsTrue m.told → Patches file gate (1 ∷ []) m b → after.generation ≡ place.generation → after.first ≡ place.first
        → after.gate ≡ gate + length frame → after.sequence ≡ number → Appended file after (bodies ++ body ∷ []) a b
    appended_at after told_still then_done generation same_first new_gate sequence =
        appended file place bodies body frame a m at b framed told patched after told_still (subst (λ n. Patches file n (1 ∷ []) m b) (sym gate_is) then_done)
        generation same_first (new_gate ∙ ap (λ n. n + length frame) (sym gate_is)) (sequence ∙ number_is)
