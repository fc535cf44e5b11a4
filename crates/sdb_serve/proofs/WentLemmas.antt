-- What an event, or a Commit or a Work, leads to.
use Rattle.std.proofs.Common.{◌≡◌, ℕ, ◌+◌, ◌≤◌, true, false, List, [], ◌∷◌, ◌++◌, Option, IsTrue, Result, Ok, Err, OnOk, refl, sym, ◌∙◌, ap, subst, arith, append-nil}
use Rattle.sdb_arrivals.specs.Story.{Answer, Event, Opened, Piece, Ended, Commit, Work, Step}
use Rattle.sdb_core.specs.Kept.{View}
use Rattle.sdb_core.specs.Ledgers.{Opening, gives, in_hand, ledger}
use Rattle.sdb_core.specs.Told.{faults_in, faults_of, step_of}
use Rattle.sdb_disk.specs.Disk as disk
use Rattle.sdb_io.specs.Links as links
use Rattle.sdb_serve.specs.Acts.{Act, Comes, IsDue, Phase, after_done, after_event, after_taken, after_work, committing, does, due_event, phase, resting, story_of, takes, waits_in}
use Rattle.sdb_serve.specs.Coming.{ReadsClock}
use Rattle.sdb_serve.specs.Stepping.{Stepped}
use Rattle.sdb_serve.specs.Serving.{Begun, IsQuiet, LeadsTo, Serving, Went}
use Rattle.sdb_serve.proofs.HandLemmas.{waits_from, works-in_hand}
use Rattle.sdb_serve.proofs.ServingLemmas.{Serving-taken, Shift}
use Rattle.sdb_serve.proofs.SendLemmas.{RoseBy-add}
use Rattle.sdb_serve.proofs.SilentLemmas.{Serving-does}
use Rattle.sdb_status.specs.declared.status.Status.{Status}

pub any-ok : {T E : Type 0} (r : Result T E) (P : Type 0) → P → OnOk r P
any-ok (Ok value) P h = h
any-ok (Err fault) P h = tt

pub Went-opened : (conn : ℕ) (a : Answer) (result : Result Unit Status) (o : Opening) (start : links.State) (first : Begun) (moments : Option (List ℕ)) (acts : List Act)
    (old new : View) (disk_old disk_new : disk.State) (before now : links.State)
    → Serving o start first acts old disk_old before moments → phase acts ≡ resting → IsQuiet o acts → Stepped (Opened conn) a old new disk_old disk_new o (story_of acts)
    → Shift (Opened conn) a before now → LeadsTo resting result (after_taken a (Opened conn))
    → Went resting 1 o start first acts result new disk_new now moments
Went-opened conn a result o start first moments acts old new disk_old disk_new before now h rests quiet told shift leads =
    let s = step_of (Opened conn) a new.store disk_new told.came told.refused in
    record {
      after = takes s ∷ acts;
      serving = Serving-taken (Opened conn) a o start first moments moments acts old new disk_old disk_new before now h rests tt told refl shift refl;
      phase = leads;
      quiet = any-ok result (IsQuiet o (takes s ∷ acts)) quiet;
      taken = refl;
    }

pub Went-ended : (conn : ℕ) (a : Answer) (result : Result Unit Status) (o : Opening) (start : links.State) (first : Begun) (moments : Option (List ℕ)) (acts : List Act)
    (old new : View) (disk_old disk_new : disk.State) (before now : links.State)
    → Serving o start first acts old disk_old before moments → phase acts ≡ resting → IsQuiet o acts → Stepped (Ended conn) a old new disk_old disk_new o (story_of acts)
    → Shift (Ended conn) a before now → LeadsTo resting result (after_taken a (Ended conn))
    → Went resting 1 o start first acts result new disk_new now moments
Went-ended conn a result o start first moments acts old new disk_old disk_new before now h rests quiet told shift leads =
    let s = step_of (Ended conn) a new.store disk_new told.came told.refused in
    record {
      after = takes s ∷ acts;
      serving = Serving-taken (Ended conn) a o start first moments moments acts old new disk_old disk_new before now h rests tt told refl shift refl;
      phase = leads;
      quiet = any-ok result (IsQuiet o (takes s ∷ acts)) quiet;
      taken = refl;
    }

pub Went-worked : (a : Answer) (result : Result Unit Status) (o : Opening) (start : links.State) (first : Begun) (moments : Option (List ℕ)) (acts : List Act)
    (old new : View) (disk_old disk_new : disk.State) (now : links.State)
    → Serving o start first acts old disk_old now moments → phase acts ≡ committing → IsQuiet o acts → Stepped Work a old new disk_old disk_new o (story_of acts)
    → LeadsTo resting result (after_done a Work) → Went resting 0 o start first acts result new disk_new now moments
Went-worked a result o start first moments acts old new disk_old disk_new now h commits quiet told leads =
    let s = step_of Work a new.store disk_new told.came told.refused in
    let l = ledger o (story_of acts) in
    let P : Phase → Type 0 = λ p. IsDue p (waits_in l) (does s) in
    let due : Work ≡ due_event (waits_in l) = ap due_event (sym (waits_from l quiet)) in
    record {
      after = does s ∷ acts;
      serving = Serving-does o start first moments acts s old new disk_old disk_new now h (subst P (sym commits) due) (λ k. refl) refl told.stands (told.out ∙ append-nil old.line.out ∙ h.out)
          (RoseBy-add (faults_in o (story_of acts)) (faults_of l.sound Work a) first.faults disk_old.faults disk_new.faults h.faults told.counted) told.sure;
      phase = leads;
      quiet = any-ok result (IsQuiet o (does s ∷ acts)) (works-in_hand a l ∙ quiet);
      taken = omega arith;
    }
