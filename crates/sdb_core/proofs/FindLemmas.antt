-- What a commit finds in the files, by its answer.
use Rattle.std.proofs.Common.{◌≡◌, ◌⊎◌, inl, inr, ℕ, ◌<◌, Bool, true, false, IsTrue, refl, sym, ap, ◌∙◌, subst}
use Rattle.sdb_arrivals.specs.Story.{Answer, Done, Full, Disk, NotAStore, OutOfMemory, Event, Opened, Piece, Ended, Commit, Work}
use Rattle.sdb_disk.specs.Disk.{Files, State}
use Rattle.sdb_record.specs.Stands.{IsFirstBad}
use Rattle.sdb_record.proofs.StandsLemmas.{none_is_bad, one_is_first_bad}
use Rattle.sdb_store.specs.Kept.{Contents}
use Rattle.sdb_store.specs.Opened.{IsBadFile}
use Rattle.sdb_core.specs.Causes.{EndedCause, Finds, FindsFiles, HasCause, OpenedCause, OpensAgain, PieceCause, StandForSome, WorkCause}
use Rattle.sdb_core.specs.Kept.{View}
use Rattle.sdb_core.proofs.FillLemmas.{no_both}

-- files that stand for some accounts have no bad one
none_bad : (c : Files) (k : ℕ) → StandForSome c → IsFirstBad k c → ⊥
none_bad c k stand bad = none_is_bad c stand.0 stand.1 k stand.2 bad

done_no_file : (k : ℕ) → Done ≡ NotAStore k → ⊥
done_no_file k e = cc

full_no_file : (k : ℕ) → Full ≡ NotAStore k → ⊥
full_no_file k e = cc

disk_no_file : (k : ℕ) → Disk ≡ NotAStore k → ⊥
disk_no_file k e = cc

memory_no_file : (k : ℕ) → OutOfMemory ≡ NotAStore k → ⊥
memory_no_file k e = cc

file_not_done : (k : ℕ) → NotAStore k ≡ Done → ⊥
file_not_done k e = cc

disk_not_done : Disk ≡ Done → ⊥
disk_not_done e = cc

one_file : (j k : ℕ) → NotAStore j ≡ NotAStore k → j ≡ k
one_file j k e = cc

-- where the opening failed by the disk or for memory
failed_no_file : (a : Answer) → (a ≡ Disk) ⊎ (a ≡ OutOfMemory) → (k : ℕ) → a ≡ NotAStore k → ⊥
failed_no_file a (inl is) k e = disk_no_file k (sym is ∙ e)
failed_no_file a (inr is) k e = memory_no_file k (sym is ∙ e)

failed_not_done : (a : Answer) → (a ≡ Disk) ⊎ (a ≡ OutOfMemory) → a ≡ Done → ⊥
failed_not_done a (inl is) e = disk_not_done (sym is ∙ e)
failed_not_done a (inr is) e = cc

-- a commit that went well opens nothing
opens_nothing : (old : Contents) → old.sound ≡ true → OpensAgain Done old → ⊥
opens_nothing old sound (inl lost) = no_both sound lost
opens_nothing old sound (inr not) = not refl

module _ (old new : Contents) (before now : State) where
  pub finds_committed : old.sound ≡ true → FindsFiles Done old new before now
  finds_committed sound = record {
    bad = λ k e. absurd (done_no_file k e);
    stand = λ again. absurd (opens_nothing old sound again);
    exactly = λ again. absurd (opens_nothing old sound again);
    untouched = λ lost. absurd (no_both sound lost);
    stood = λ lost. absurd (no_both sound lost);
    exactly_before = λ lost. absurd (no_both sound lost);
  }

  -- what was held couldn't be committed, and the store was opened again
  pub finds_again : old.sound ≡ true → (IsTrue now.told → StandForSome now.seen) → FindsFiles Disk old new before now
  finds_again sound still = record {
    bad = λ k e. absurd (disk_no_file k e);
    stand = λ again is told. still told;
    exactly = λ again told k less bad. absurd (none_bad now.seen k (still told) bad);
    untouched = λ lost. absurd (no_both sound lost);
    stood = λ lost. absurd (no_both sound lost);
    exactly_before = λ lost. absurd (no_both sound lost);
  }

  -- a store that wasn't sound was opened again
  pub finds_sound : (IsTrue before.told → StandForSome before.seen) → (IsTrue now.told → StandForSome now.seen) → FindsFiles Done old new before now
  finds_sound stood still = record {
    bad = λ k e. absurd (done_no_file k e);
    stand = λ again is told. still told;
    exactly = λ again told k less bad. absurd (none_bad now.seen k (still told) bad);
    untouched = λ lost k e. absurd (done_no_file k e);
    stood = λ lost e told. stood told;
    exactly_before = λ lost told k less bad. absurd (none_bad before.seen k (stood told) bad);
  }

  module _ (lost : new.sound ≡ false) where
    pub finds_failed : (a : Answer) → (a ≡ Disk) ⊎ (a ≡ OutOfMemory) → FindsFiles a old new before now
    finds_failed a failed = record {
      bad = λ k e. absurd (failed_no_file a failed k e);
      stand = λ again is. absurd (no_both is lost);
      exactly = λ again told k less bad. inr (lost, failed);
      untouched = λ was k e. absurd (failed_no_file a failed k e);
      stood = λ was e. absurd (failed_not_done a failed e);
      exactly_before = λ was told k less bad. inr failed;
    }

    pub finds_bad : (file : ℕ) → IsBadFile file now → (old.sound ≡ false → (now.told ≡ before.told) × (now.seen ≡ before.seen)) → FindsFiles (NotAStore file) old new before now
    finds_bad file is same = record {
      bad = λ k e. (lost, subst (λ (j : ℕ). IsBadFile j now) (one_file file k e) is);
      stand = λ again sound. absurd (no_both sound lost);
      exactly = λ again told k less bad. inl (ap NotAStore (one_is_first_bad now.seen file k is.0 less (is.1 told) bad));
      untouched = λ was k e. (same was).1;
      stood = λ was e. absurd (file_not_done file e);
      exactly_before = λ was told k less bad.
          inl (ap NotAStore (one_is_first_bad before.seen file k is.0 less (subst (IsFirstBad file) (same was).1 (is.1 (subst IsTrue (sym (same was).0) told))) bad));
    }

-- ---- a step that answers so is a commit, and the file is bad

done_or : (a other : Answer) (k : ℕ) → (other ≡ NotAStore k → ⊥) → (a ≡ Done) ⊎ (a ≡ other) → a ≡ NotAStore k → ⊥
done_or a other k not (inl is) e = done_no_file k (sym is ∙ e)
done_or a other k not (inr is) e = not (sym is ∙ e)

opened_no_file : (a : Answer) (old new : View) (before now : State) (k : ℕ) → OpenedCause a old new before now → a ≡ NotAStore k → ⊥
opened_no_file a old new before now k cause e = done_or a Full k (full_no_file k) cause.answers e

piece_no_file : (a : Answer) (k : ℕ) (same : Type 0) → (a ≡ Done) ⊎ ((a ≡ OutOfMemory) × same) → a ≡ NotAStore k → ⊥
piece_no_file a k same (inl is) e = done_no_file k (sym is ∙ e)
piece_no_file a k same (inr is) e = memory_no_file k (sym is.0 ∙ e)

work_no_file : (a : Answer) (k : ℕ) → (a ≡ Done) ⊎ (a ≡ Disk) ⊎ (a ≡ OutOfMemory) → a ≡ NotAStore k → ⊥
work_no_file a k (inl is) e = done_no_file k (sym is ∙ e)
work_no_file a k (inr failed) e = failed_no_file a failed k e

pub bad_file : (e : Event) (a : Answer) (old new : View) (before now : State) → HasCause e a old new before now → Finds e a old new before now → (k : ℕ) → a ≡ NotAStore k → IsBadFile k now
bad_file (Opened conn) a old new before now cause finds k is = absurd (opened_no_file a old new before now k cause is)
bad_file (Piece conn moment bytes) a old new before now cause finds k is = absurd (piece_no_file a k (new ≡ old) cause.answers is)
bad_file (Ended conn) a old new before now cause finds k is = absurd (done_no_file k (sym cause.answers ∙ is))
bad_file Commit a old new before now cause finds k is = (finds.bad k is).1
bad_file Work a old new before now cause finds k is = absurd (work_no_file a k cause.answers is)
