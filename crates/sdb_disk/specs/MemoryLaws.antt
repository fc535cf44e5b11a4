-- What a record of calls says of the disk, whatever the calls were.
use Rattle.std.proofs.Common.{◌≡◌, ◌≢◌, inl, inr, ⊎_elim, ℕ, ◌<◌, ◌≤◌, min, Bool, true, false, List, [], ◌∷◌, length, refl, sym, ap, length-take, ◌∙◌, subst, arith, ◌==◌, if◌then◌else◌}
use Rattle.std.specs.Bool.{MatchBool}
use Rattle.std.proofs.lemmas.Bool.{MatchBool-at_true, MatchBool-at_false}
use Rattle.std.proofs.lemmas.Grind.{same_number_lists}
use Rattle.std.proofs.lemmas.Bool.Decides.{eqb_tells}
use Rattle.sdb_disk.specs.declared.memory.Call.{Call}
use Rattle.sdb_disk.specs.declared.memory.Call.TheVariants.{Write, Cut, Sync}
use Rattle.sdb_disk.specs.Disk.{Files, Passes}
use Rattle.sdb_disk.specs.Past.{file_of, undone, before, Alike, LeavesAfter, Leaves, LeftSince, least_after, least, greatest_after, greatest, state_of}

-- a choice by a true test is its first case
pub MatchBool-from_true : (b : Bool) (P Q : Type 0) → b ≡ true → P → MatchBool b P Q
MatchBool-from_true b P Q e p = subst (λ v. MatchBool v P Q) (sym e) p

-- a choice by a false test is its second case
pub MatchBool-from_false : (b : Bool) (P Q : Type 0) → b ≡ false → Q → MatchBool b P Q
MatchBool-from_false b P Q e q = subst (λ v. MatchBool v P Q) (sym e) q

-- the same of values, where the test is true
pub if_true : {X : Type 0} (b : Bool) (x y : X) → b ≡ true → (if b then x else y) ≡ x
if_true {X} b x y e = subst (λ (v : Bool). (if v then x else y) ≡ x) (sym e) refl

-- and where it is false
pub if_false : {X : Type 0} (b : Bool) (x y : X) → b ≡ false → (if b then x else y) ≡ y
if_false {X} b x y e = subst (λ (v : Bool). (if v then x else y) ≡ y) (sym e) refl

-- another file is as it was
pub before_other : (call : Call) (files : Files) (k : ℕ) → (k == file_of call) ≡ false → before call files k ≡ files k
before_other call files k other = if_false (k == file_of call) _ _ other

-- a call is taken back in its own file
pub before_same : (call : Call) (files : Files) (k : ℕ) → (k == file_of call) ≡ true → before call files k ≡ undone call (files k)
before_same call files k same = if_true (k == file_of call) _ _ same

Alike-refl : (calls : List Call) (k : ℕ) (now : List ℕ) → Alike calls k now now
Alike-refl calls k now = record { size = refl; same = λ j within synced. refl }

-- what the files hold is what a crash may leave
pub Leaves-now : (files : Files) (calls : List Call) (k : ℕ) (c : List ℕ) → Alike calls k (files k) c → Leaves files calls k c
Leaves-now files [] k c alike = same_number_lists c (files k) alike.size (λ j within. alike.same j (omega (arith, alike.size)) (λ none. none))
Leaves-now files (call ∷ earlier) k c alike = elim (eqb_tells k (file_of call)) [
  | inl here ↦ MatchBool-from_true _ _ _ here.0 (at_call call alike here.1)
  | inr other ↦ MatchBool-from_false _ _ _ other.0 (Leaves-now (before call files) earlier k c
      (subst (λ now. Alike earlier k now c) (sym (before_other call files k other.0)) (skip call alike other.1)))
]
  where
    at_call : (call : Call) → Alike (call ∷ earlier) k (files k) c → k ≡ file_of call
        → LeavesAfter call (call ∷ earlier) k (files k) (Leaves (before call files) earlier k) c
    at_call (Write file at count was) alike here = inl alike
    at_call (Cut file len was) alike here = inl alike
    at_call (Sync file) alike here = same_number_lists c (files k) alike.size
        (λ j within. alike.same j (omega (arith, alike.size)) (λ unsynced. unsynced.0 here))

    skip : (call : Call) → Alike (call ∷ earlier) k (files k) c → k ≢ file_of call → Alike earlier k (files k) c
    skip (Write file at count was) alike other = record {
      size = alike.size;
      same = λ j within synced. alike.same j within (λ unsynced. ⊎_elim (λ written. other written.0) synced unsynced);
    }
    skip (Cut file len was) alike other = record { size = alike.size; same = alike.same }
    skip (Sync file) alike other = record {
      size = alike.size;
      same = λ j within synced. alike.same j within (λ unsynced. synced unsynced.1);
    }

-- what a read gives may be what a crash leaves
pub may_stay : (files : Files) (calls : List Call) (k : ℕ) → Leaves files calls k (files k)
may_stay files calls k = Leaves-now files calls k (files k) (Alike-refl calls k (files k))

-- a file is at least as long as its least length
pub least_now : (files : Files) (calls : List Call) (k : ℕ) → least files calls k ≤ length (files k)
least_now files [] k = omega arith
least_now files (call ∷ earlier) k = elim (eqb_tells k (file_of call)) [
  | inl here ↦ subst (λ n. n ≤ length (files k)) (sym (if_true (k == file_of call) _ _ here.0)) (at_call call)
  | inr other ↦ subst (λ n. n ≤ length (files k)) (sym (if_false (k == file_of call) _ _ other.0))
      (subst (λ now. least (before call files) earlier k ≤ length now) (before_other call files k other.0) (least_now (before call files) earlier k))
]
  where
    at_call : (call : Call) → least_after call (length (files k)) (least (before call files) earlier k) ≤ length (files k)
    at_call (Write file at count was) = omega arith
    at_call (Cut file len was) = omega arith
    at_call (Sync file) = omega arith

-- and at most as long as its greatest
pub greatest_now : (files : Files) (calls : List Call) (k : ℕ) → length (files k) ≤ greatest files calls k
greatest_now files [] k = omega arith
greatest_now files (call ∷ earlier) k = elim (eqb_tells k (file_of call)) [
  | inl here ↦ subst (λ n. length (files k) ≤ n) (sym (if_true (k == file_of call) _ _ here.0)) (at_call call)
  | inr other ↦ subst (λ n. length (files k) ≤ n) (sym (if_false (k == file_of call) _ _ other.0))
      (subst (λ now. length now ≤ greatest (before call files) earlier k) (before_other call files k other.0) (greatest_now (before call files) earlier k))
]
  where
    at_call : (call : Call) → length (files k) ≤ greatest_after call (length (files k)) (greatest (before call files) earlier k)
    at_call (Write file at count was) = omega arith
    at_call (Cut file len was) = omega arith
    at_call (Sync file) = omega arith

-- what a crash may leave is as long as the file was at some time since its sync
pub lengths : (files : Files) (calls : List Call) (k : ℕ) (c : List ℕ) → Leaves files calls k c
    → (least files calls k ≤ length c) × (length c ≤ greatest files calls k)
lengths files [] k c left = let same : length c ≡ length (files k) = ap length left in (omega arith, omega arith)
lengths files (call ∷ earlier) k c left = elim (eqb_tells k (file_of call)) [
  | inl here ↦
      subst (λ n. (n ≤ length c) × (length c ≤ greatest files (call ∷ earlier) k)) (sym (if_true (k == file_of call) _ _ here.0))
      (subst (λ n. (least_after call (length (files k)) (least (before call files) earlier k) ≤ length c) × (length c ≤ n)) (sym (if_true (k == file_of call) _ _ here.0))
      (at_call call (lengths (before call files) earlier k) (MatchBool-at_true _ _ here.0 left)))
  | inr other ↦
      subst (λ n. (n ≤ length c) × (length c ≤ greatest files (call ∷ earlier) k)) (sym (if_false (k == file_of call) _ _ other.0))
      (subst (λ n. (least (before call files) earlier k ≤ length c) × (length c ≤ n)) (sym (if_false (k == file_of call) _ _ other.0))
      (lengths (before call files) earlier k c (MatchBool-at_false _ _ other.0 left)))
]
  where
    at_call : (call : Call)
        → ((d : List ℕ) → Leaves (before call files) earlier k d → (least (before call files) earlier k ≤ length d) × (length d ≤ greatest (before call files) earlier k))
        → LeavesAfter call (call ∷ earlier) k (files k) (Leaves (before call files) earlier k) c
        → (least_after call (length (files k)) (least (before call files) earlier k) ≤ length c)
        × (length c ≤ greatest_after call (length (files k)) (greatest (before call files) earlier k))
    at_call (Write file at count was) old (inl alike) = let size = alike.size in (omega arith, omega arith)
    at_call (Write file at count was) old (inr (d, before_it, torn)) =
        let was_long = old d before_it in let shorter = torn.no_shorter in let longer = torn.no_longer in (omega arith, omega arith)
    at_call (Cut file len was) old (inl alike) = let size = alike.size in (omega arith, omega arith)
    at_call (Cut file len was) old (inr (d, before_it, cut)) =
        let was_long = old d before_it in
        let longer = cut.no_longer in
        let front : min len (length c) ≡ min len (length d) = sym (length-take len c) ∙ ap length cut.front ∙ length-take len d in
        (omega arith, omega arith)
    at_call (Sync file) old left = let same : length c ≡ length (files k) = ap length left in (omega arith, omega arith)

-- an image of now is one since every moment
pub counts_now : (files : Files) (calls : List Call) (t : ℕ) (c : Files) → t ≤ length calls → ((k : ℕ) → Leaves files calls k (c k)) → LeftSince files calls t c
counts_now files [] t c le image = (image, le)
counts_now files (call ∷ earlier) t c le image = inl (image, le)

-- no moment lies past the last
none_later : (files : Files) (calls : List Call) (t : ℕ) (c : Files) → length calls < t → LeftSince files calls t c → ⊥
none_later files [] t c le left = let past = left.1 in absurd (omega arith)
none_later files (call ∷ earlier) t c le (inl now) = let past = now.1 in absurd (omega arith)
none_later files (call ∷ earlier) t c le (inr left) = none_later (before call files) earlier t c (omega arith) left

-- since this moment there are the images of now alone
pub only_now : (files : Files) (calls : List Call) (c : Files) → LeftSince files calls (length calls) c → (k : ℕ) → Leaves files calls k (c k)
only_now files [] c left = left.0
only_now files (call ∷ earlier) c (inl now) = now.0
only_now files (call ∷ earlier) c (inr left) = absurd (none_later (before call files) earlier (length (call ∷ earlier)) c (omega arith) left)

-- a call that was made
pub call_passes : (call : Call) (files : Files) (calls : List Call) (faults faults' : ℕ) → Passes (state_of (before call files) calls faults) (state_of files (call ∷ calls) faults')
call_passes call files calls faults faults' = record {
  time = record {
    later = omega arith;
    nothing_else = λ t c le left. ⊎_elim (λ now. inr (inl (now.0, omega arith))) (λ past. inl past) left;
    keeps = λ t c le left. inr left;
    adds = λ t c le left. ⊎_elim (λ now. inl (now.0, omega arith))
        (λ past. inr (counts_now (before call files) calls t c le (only_now (before call files) calls c past))) left;
  };
  during = λ c left. ⊎_elim (λ now. inr now.0) (λ past. inl (only_now (before call files) calls c past)) left;
}

-- a call that changed nothing
pub nothing_passes : (files : Files) (calls : List Call) (faults faults' : ℕ) → Passes (state_of files calls faults) (state_of files calls faults')
nothing_passes files calls faults faults' = record {
  time = record {
    later = omega arith;
    nothing_else = λ t c le left. inl left;
    keeps = λ t c le left. left;
    adds = λ t c le left. counts_now files calls t c le (only_now files calls c left);
  };
  during = λ c left. inl (only_now files calls c left);
}
