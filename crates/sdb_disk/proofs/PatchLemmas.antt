-- What a crash leaves in a write and a sync of one file.
use Rattle.std.proofs.Common.{inl, inr, ℕ, Result, sym, subst}
use Rattle.std.proofs.lemmas.Bool.{cases_eq}
use Rattle.sdb_disk.specs.Disk.{Files, State, Image, SettledFile, Torn, Steps, Syncs, Passes, LeavesOnly, PatchedIn, TornIn}
use Rattle.sdb_disk.proofs.CallLemmas.{LeavesOnly-call, LeavesOnly-trans, LeavesOnly-weaker, Torn-refl}

-- what a crash leaves after a sync it might have left before
Syncs-before : {T E : Type 0} (file : ℕ) (b c : State) (synced : Result T E) → Syncs file synced b c → (f : Files) → Image c f → Image b f
Syncs-before file b c synced sync f image k = elim (cases_eq k file) [
  | inl same ↦ let P : ℕ → Type 0 = λ j. b.may_leave j (f j) in subst P (sym same) (sync.no_more (f file) (subst (λ j. c.may_leave j (f j)) same (image k)))
  | inr other ↦ (sync.others k other).no_more (f k) (image k)
]

module _ (file at n : ℕ) (a : State) where
  -- before the write
  untorn : (f : Files) → Image a f → TornIn file at n a f
  untorn f image = record { was = f file; before = image file; torn = Torn-refl at n (f file); others = λ k other. image k }

  module _ {T E : Type 0} (b : State) (result : Result T E) (write : Steps (Torn at n) file result a b) where
    -- after the write
    torn_after : (f : Files) → Image b f → TornIn file at n a f
    torn_after f image =
        let from = write.no_more (f file) (image file) in
        record {
          was = from.0;
          before = from.1;
          torn = from.2;
          others = λ k other. (write.others k other).no_more (f k) (image k);
        }

    pub over_leaves : Passes a b → LeavesOnly a b (TornIn file at n a)
    over_leaves passes = LeavesOnly-call a b (TornIn file at n a) passes untorn torn_after

    -- and after the sync, which forgets some of it or none
    pub over_synced_leaves : {T' E' : Type 0} (c : State) (synced : Result T' E') → Passes a b → Syncs file synced b c → Passes b c
        → LeavesOnly a c (TornIn file at n a)
    over_synced_leaves c synced passes sync later =
        LeavesOnly-trans a b c (TornIn file at n a) passes.time.later later.time (over_leaves passes)
        (LeavesOnly-call b c (TornIn file at n a) later torn_after (λ f image. torn_after f (Syncs-before file b c synced sync f image)))

-- of a settled file
pub patched_leaves : (file at n : ℕ) (a b : State) → SettledFile a file → LeavesOnly a b (TornIn file at n a) → LeavesOnly a b (PatchedIn file at n a)
patched_leaves file at n a b settled leaves = LeavesOnly-weaker a b (TornIn file at n a) (PatchedIn file at n a) leaves
    (λ f t. record { patched = subst (λ d. Torn at n d (f file)) (settled t.was t.before) t.torn; others = t.others })
