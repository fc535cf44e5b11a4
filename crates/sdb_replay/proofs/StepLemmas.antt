-- One event that is carried out, of every story.
use Rattle.std.proofs.Common.{◌≡◌, ℕ, ◌≤◌, List, [], ◌∷◌, ◌++◌, length, map, take, Option, Some, None, refl, sym, ◌∙◌, ap, subst, arith}
use Rattle.std.proofs.KnownBytes.{Appends-nil}
use Rattle.std.proofs.lemmas.List.{take_all}
use Rattle.std.specs.Prelude.{IsTrue}
use Rattle.std.specs.Io.KnownBytes.{Appends}
use Rattle.sdb_arrivals.specs.Story.{Answer, Done, Full, Disk, NotAStore as BadFiles, OutOfMemory as NoMemory, Event, Opened, Piece, Ended, Commit, Work, Step}
use Rattle.sdb_arrivals.specs.Connects.{Connects}
use Rattle.sdb_store.specs.Kept.{Keeps}
use Rattle.sdb_core.specs.Kept.{Agrees, Holds, View}
use Rattle.sdb_core.specs.Ledgers.{Opening, count_released, durable, gives, ledger, number, sent_by}
use Rattle.sdb_core.specs.Told.{StandsFor, Told, step_of}
use Rattle.sdb_disk.specs.Disk.{State}
use Rattle.sdb_status.specs.declared.status.Status.{Status}
use Rattle.sdb_status.specs.declared.status.Status.TheVariants.{OutOfMemory, NotAStore}
use Rattle.sdb_replay.specs.Endings.{AppendsFront}
use Rattle.sdb_replay.specs.Events.{ending}
use Rattle.sdb_replay.specs.Running.{Carried, Carries, CarriesTo, emptied}
use Rattle.sdb_replay.specs.Shown.{refusal_text, sent_texts, step_text}

-- ---- what was taken off doesn't matter to what a core stands for

agrees-alike : (k other : View) (o : Opening) (story : List Step) → emptied k ≡ emptied other → Agrees k.line k.store o (ledger o story) → Agrees other.line other.store o (ledger o story)
agrees-alike k other o story same agrees = record {
  held = sym (ap (λ (v : View). v.line.held) same) ∙ agrees.held;
  waiting = sym (ap (λ (v : View). v.line.waiting) same) ∙ agrees.waiting;
  few = agrees.few;
  sound = sym (ap (λ (v : View). v.store.sound) same) ∙ agrees.sound;
  pending = λ sound. sym (ap (λ (v : View). v.store.pending) same) ∙ agrees.pending sound;
  accounts = λ sound. sym (ap (λ (v : View). v.store.accounts) same) ∙ agrees.accounts sound;
  resting = agrees.resting;
}

pub stands-alike : (k other : View) (s : State) (o : Opening) (story : List Step) → emptied k ≡ emptied other → StandsFor k s o story → StandsFor other s o story
stands-alike k other s o story same stands = record {
  keys = sym (ap (λ (v : View). v.keys) same) ∙ stands.keys;
  holds = record {
    agrees = agrees-alike k other o story same stands.holds.agrees;
    keeps = subst (λ store. Keeps store s (durable o (ledger o story).groups) (number o (ledger o story).groups) (ledger o story).undecided) (ap (λ (v : View). v.store) same) stands.holds.keeps;
  };
  connects = subst (λ table. Connects (count_released o) table story) (ap (λ (v : View). v.table) same) stands.connects;
  steps = stands.steps;
  moment = stands.moment;
  crash = stands.crash;
}

-- ---- a step

-- what a core releases is what the step shows
text-is : (e : Event) (a : Answer) (old stepped : View) (before now : State) (first last : ℕ) (o : Opening) (story : List Step) → old.line.out ≡ []
    → Told e a old stepped before now first last o story → sent_texts stepped.line.out ++ refusal_text e a ≡ step_text e a (ledger o story)
text-is e a old stepped before now first last o story quiet told =
    ap (λ out. sent_texts out ++ refusal_text e a) (told.out ∙ ap (λ out. out ++ map sent_by (gives e a (ledger o story))) quiet)

pub carried : (Wrote : List ℕ → Type 0) (e : Event) (a : Answer) (old stepped new : View) (before now : State) (first last : ℕ) → old.line.out ≡ [] → emptied new ≡ emptied stepped
    → (IsTrue before.told → (o : Opening) (story : List Step) → StandsFor old before o story → Told e a old stepped before now first last o story)
    → Wrote (sent_texts stepped.line.out ++ refusal_text e a)
    → Carries Wrote e a old new before now
carried Wrote e a old stepped new before now first last quiet same tells wrote is_told o story stands =
    let told = tells is_told o story stands in record {
      s = step_of e a stepped.store now told.came told.refused;
      event = refl;
      answer = refl;
      stands = stands-alike stepped new now o _ (sym same) told.stands;
      answered = record { full = told.full; plain = told.plain };
      counted = told.counted;
      wrote = subst Wrote (text-is e a old stepped before now first last o story quiet told) wrote;
    }

-- ---- a front of it

pub front_of : (written all : Option (List ℕ)) (text : List ℕ) → Appends written all text → AppendsFront written all text
front_of written all text appends = (length text, omega arith, subst (λ t. Appends written all t) (sym (take_all (length text) text (omega arith))) appends)

pub front_none : (written : Option (List ℕ)) (text : List ℕ) → AppendsFront written written text
front_none written text = (0, omega arith, Appends-nil written)

carries-front : (e : Event) (a : Answer) (old new : View) (before now : State) (written all : Option (List ℕ))
    → Carries (Appends written all) e a old new before now → Carries (AppendsFront written all) e a old new before now
carries-front e a old new before now written all carries is_told o story stands =
    let c = carries is_told o story stands in
    record { s = c.s; event = c.event; answer = c.answer; stands = c.stands; answered = c.answered; counted = c.counted; wrote = front_of written all _ c.wrote }

-- an answer that ends the run
pub carries_to : (status : Status) (e : Event) (a : Answer) (old new : View) (before now : State) (written all : Option (List ℕ))
    → ending e a ≡ Some status → Carries (Appends written all) e a old new before now → CarriesTo status e old new before now written all
carries_to status e (BadFiles file) old new before now written all is carries =
    let same : NotAStore file ≡ status = cc in subst (λ s. CarriesTo s e old new before now written all) same carries
carries_to status (Opened conn) NoMemory old new before now written all is carries =
    let same : OutOfMemory ≡ status = cc in
    subst (λ s. CarriesTo s (Opened conn) old new before now written all) same (NoMemory, carries-front (Opened conn) NoMemory old new before now written all carries)
carries_to status (Piece conn moment bytes) NoMemory old new before now written all is carries =
    let same : OutOfMemory ≡ status = cc in
    subst (λ s. CarriesTo s (Piece conn moment bytes) old new before now written all) same (NoMemory, carries-front (Piece conn moment bytes) NoMemory old new before now written all carries)
carries_to status (Ended conn) NoMemory old new before now written all is carries = absurd cc
carries_to status Commit NoMemory old new before now written all is carries = absurd cc
carries_to status Work NoMemory old new before now written all is carries = absurd cc
carries_to status (Opened conn) Done old new before now written all is carries = absurd cc
carries_to status (Piece conn moment bytes) Done old new before now written all is carries = absurd cc
carries_to status (Ended conn) Done old new before now written all is carries = absurd cc
carries_to status Commit Done old new before now written all is carries = absurd cc
carries_to status Work Done old new before now written all is carries = absurd cc
carries_to status (Opened conn) Full old new before now written all is carries = absurd cc
carries_to status (Piece conn moment bytes) Full old new before now written all is carries = absurd cc
carries_to status (Ended conn) Full old new before now written all is carries = absurd cc
carries_to status Commit Full old new before now written all is carries = absurd cc
carries_to status Work Full old new before now written all is carries = absurd cc
carries_to status (Opened conn) Disk old new before now written all is carries = absurd cc
carries_to status (Piece conn moment bytes) Disk old new before now written all is carries = absurd cc
carries_to status (Ended conn) Disk old new before now written all is carries = absurd cc
carries_to status Commit Disk old new before now written all is carries = absurd cc
carries_to status Work Disk old new before now written all is carries = absurd cc

-- the answer by which a run ends where a file is bad
pub ends_bad : (e : Event) (a : Answer) (file : ℕ) → ending e a ≡ Some (NotAStore file) → a ≡ BadFiles file
ends_bad e (BadFiles k) file is = let same : k ≡ file = cc in ap BadFiles same
ends_bad (Opened conn) NoMemory file is = absurd cc
ends_bad (Piece conn moment bytes) NoMemory file is = absurd cc
ends_bad (Ended conn) NoMemory file is = absurd cc
ends_bad Commit NoMemory file is = absurd cc
ends_bad Work NoMemory file is = absurd cc
ends_bad (Opened conn) Done file is = absurd cc
ends_bad (Piece conn moment bytes) Done file is = absurd cc
ends_bad (Ended conn) Done file is = absurd cc
ends_bad Commit Done file is = absurd cc
ends_bad Work Done file is = absurd cc
ends_bad (Opened conn) Full file is = absurd cc
ends_bad (Piece conn moment bytes) Full file is = absurd cc
ends_bad (Ended conn) Full file is = absurd cc
ends_bad Commit Full file is = absurd cc
ends_bad Work Full file is = absurd cc
ends_bad (Opened conn) Disk file is = absurd cc
ends_bad (Piece conn moment bytes) Disk file is = absurd cc
ends_bad (Ended conn) Disk file is = absurd cc
ends_bad Commit Disk file is = absurd cc
ends_bad Work Disk file is = absurd cc
