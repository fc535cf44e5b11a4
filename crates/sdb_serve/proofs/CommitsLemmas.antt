-- The Commits of a turn, one after the other.
use Rattle.std.proofs.Common.{◌≡◌, ◌⊎◌, inl, inr, ◌+◌, ◌-◌, ◌*◌, ◌^◌, ◌<◌, ◌≤◌, ℕ, Bool, true, false, List, [], ◌∷◌, length, Option, None, IsTrue, Result, Ok, Err, OnOk, refl, sym, ◌∙◌, ap, subst, arith}
use Rattle.sdb_arrivals.specs.Story.{Commit, Step}
use Rattle.sdb_core.specs.Kept.{View}
use Rattle.sdb_core.specs.Ledgers.{Executed, Ledger, Opening, in_hand, ledger}
use Rattle.sdb_disk.specs.Disk as disk
use Rattle.sdb_io.specs.Links as links
use Rattle.sdb_serve.specs.Acts.{Act, IsDue, Phase, committing, does, due_event, phase, story_of, taken, to_commit, waits_in}
use Rattle.sdb_serve.specs.Serving.{Begun, CommitIsDue, Committed, InTurn, IsQuiet, Serving, SteadyLinks, Went}
use Rattle.sdb_serve.specs.Stepping.{rank, to_do, waits}
use Rattle.sdb_serve.proofs.DoLemmas.{rank-most}
use Rattle.sdb_serve.proofs.HandLemmas.{quiet_from, waits-agrees}
use Rattle.sdb_status.specs.declared.status.Status.{Status}
use Rattle.sdb_store.specs.Kept.{Ready}

-- how far the Commits of a turn are
pub record SoFar (o : Opening) (start : links.State) (first : Begun) (acts : List Act) (c : ℕ) (known : Option ℕ) (made : ℕ)
    (core : View) (disk_now : disk.State) (now : links.State) (moments : Option (List ℕ)) : Type 0 where
  pub after : List Act
  pub serving : Serving o start first after core disk_now now moments
  pub turn : InTurn c known o after
  pub phase : phase after ≡ committing
  pub taken : taken after ≡ taken acts
  pub left : to_do (ledger o (story_of after)) + made ≤ 3 * 2 ^ 48 + 2

pub to-commit-due : (o : Opening) (acts : List Act) → phase acts ≡ to_commit → CommitIsDue o acts
to-commit-due o acts is s commit = let P : Phase → Type 0 = λ p. IsDue p (waits_in (ledger o (story_of acts))) (does s) in subst P (sym is) commit

waiting-due : (o : Opening) (acts : List Act) → phase acts ≡ committing → waits_in (ledger o (story_of acts)) ≡ true → CommitIsDue o acts
waiting-due o acts is waits s commit =
    let P : Phase → Type 0 = λ p. IsDue p (waits_in (ledger o (story_of acts))) (does s) in
    subst P (sym is) (commit ∙ sym (ap due_event waits))

to-do-most : (l : Ledger) (n : ℕ) → length (in_hand l) ≤ n → to_do l ≤ 3 * n + 2
to-do-most l n most = omega (arith, most, rank-most l.held l.sound)

pub SoFar-first : (o : Opening) (start : links.State) (first : Begun) (moments : Option (List ℕ)) (acts : List Act) (c : ℕ) (known : Option ℕ)
    (core : View) (disk_now : disk.State) (now : links.State) → length (in_hand (ledger o (story_of acts))) < 2 ^ 48
    → Committed o start first acts c (Ok known) core disk_now now moments → SoFar o start first acts c known 0 core disk_now now moments
SoFar-first o start first moments acts c known core disk_now now most done = record {
  after = done.after;
  serving = done.serving;
  turn = done.turn;
  phase = done.phase;
  taken = done.taken;
  left = omega (arith, to-do-most (ledger o (story_of done.after)) (2 ^ 48) (omega (arith, done.hand, most)));
}

pub waits-here : (o : Opening) (start : links.State) (first : Begun) (moments : Option (List ℕ)) (acts : List Act) (core : View) (disk_now : disk.State) (now : links.State)
    → Serving o start first acts core disk_now now moments → waits core.line ≡ waits_in (ledger o (story_of acts))
waits-here o start first moments acts core disk_now now h =
    waits-agrees core.line (ledger o (story_of acts)) h.stands.holds.agrees.held h.stands.holds.agrees.waiting

-- one more, where something waits
pub SoFar-due : (o : Opening) (start : links.State) (first : Begun) (moments : Option (List ℕ)) (acts : List Act) (c : ℕ) (known : Option ℕ) (made : ℕ)
    (core : View) (disk_now : disk.State) (now : links.State) → (so_far : SoFar o start first acts c known made core disk_now now moments) → waits core.line ≡ true
    → CommitIsDue o so_far.after
SoFar-due o start first moments acts c known made core disk_now now so_far waiting =
    waiting-due o so_far.after so_far.phase (sym (waits-here o start first moments so_far.after core disk_now now so_far.serving) ∙ waiting)

pub SoFar-more : (o : Opening) (start : links.State) (first : Begun) (moments : Option (List ℕ)) (acts : List Act) (c : ℕ) (known later : Option ℕ) (made : ℕ)
    (core next : View) (disk_now disk_next : disk.State) (now after_links : links.State) → (so_far : SoFar o start first acts c known made core disk_now now moments) → waits core.line ≡ true
    → Committed o start first so_far.after c (Ok later) next disk_next after_links moments → SoFar o start first acts c later (made + 1) next disk_next after_links moments
SoFar-more o start first moments acts c known later made core next disk_now disk_next now after_links so_far waiting done = record {
  after = done.after;
  serving = done.serving;
  turn = done.turn;
  phase = done.phase;
  taken = done.taken ∙ so_far.taken;
  left = omega (arith, so_far.left, done.less (sym (waits-here o start first moments so_far.after core disk_now now so_far.serving) ∙ waiting));
}

pub Went-err : (going : Phase) (o : Opening) (start : links.State) (first : Begun) (moments : Option (List ℕ)) (acts before : List Act) (c : ℕ) (found : Status)
    (core : View) (disk_now : disk.State) (now : links.State) → taken before ≡ taken acts
    → Committed o start first before c (Err found) core disk_now now moments → Went going 0 o start first acts (Err found) core disk_now now moments
Went-err going o start first moments acts before c found core disk_now now same done = record {
  after = done.after;
  serving = done.serving;
  phase = done.phase;
  quiet = tt;
  taken = omega (arith, done.taken, same);
}

pub Went-quiet : (o : Opening) (start : links.State) (first : Begun) (moments : Option (List ℕ)) (acts : List Act) (c : ℕ) (known : Option ℕ) (made : ℕ)
    (core : View) (disk_now : disk.State) (now : links.State) → SoFar o start first acts c known made core disk_now now moments → waits core.line ≡ false
    → Went committing 0 o start first acts (Ok tt) core disk_now now moments
Went-quiet o start first moments acts c known made core disk_now now so_far none = record {
  after = so_far.after;
  serving = so_far.serving;
  phase = so_far.phase;
  quiet = quiet_from (ledger o (story_of so_far.after)) (sym (waits-here o start first moments so_far.after core disk_now now so_far.serving) ∙ none);
  taken = omega (arith, so_far.taken);
}

-- what the loop keeps
pub record Keeps (core0 core : View) (disk0 disk_now : disk.State) (links0 now : links.State) (known : Option ℕ) (made : ℕ) : Type 0 where
  pub ready : Ready core.store disk_now
  pub bytes : core.table.bytes_taken ≤ core0.table.bytes_taken
  pub last : core.table.last_opened ≡ core0.table.last_opened
  pub told : disk_now.told ≡ disk0.told
  pub time : disk.Elapses disk0 disk_now
  pub steady : SteadyLinks links0 now
  pub story : IsTrue disk0.told → (o : Opening) (start : links.State) (first : Begun) (moments : Option (List ℕ)) (acts : List Act) (c : ℕ)
      → Serving o start first acts core0 disk0 links0 moments → InTurn c None o acts → phase acts ≡ to_commit → length (in_hand (ledger o (story_of acts))) < 2 ^ 48
      → SoFar o start first acts c known made core disk_now now moments

pub steady-trans : (a b c : links.State) → SteadyLinks a b → SteadyLinks b c → SteadyLinks a c
steady-trans a b c first next = record {
  told = next.told ∙ first.told;
  last = next.last ∙ first.last;
  faults = omega (arith, first.faults, next.faults);
}
