-- A run from its opening on.
use Rattle.std.proofs.Common.{◌≡◌, ℕ, ◌+◌, ◌≤◌, List, [], ◌∷◌, ◌++◌, Option, Some, None, refl, sym, append-nil, inl, inr, arith}
use Rattle.std.specs.Prelude.{IsTrue}
use Rattle.sdb_arrivals.specs.Story.{Step}
use Rattle.sdb_core.specs.Ledgers.{Opening, ledger}
use Rattle.sdb_core.specs.Prefix.{CrashPrefix, Right, RightSince, Stands}
use Rattle.sdb_core.specs.Told.{RoseBy}
use Rattle.sdb_disk.specs.Disk.{Elapses, Files, LeavesOnly, State}
use Rattle.sdb_keys.specs.declared.keys.Key.{Key}
use Rattle.sdb_pairs.specs.Accounts.{DomainEntries}
use Rattle.sdb_script.specs.Events.{Event}
use Rattle.sdb_status.specs.declared.status.Status.{Status}
use Rattle.sdb_replay.specs.Endings.{EachStands, LeavesAsBefore, Plays, Tells, opening}

-- what is right at the opening, whatever follows
right_at_once : (follows : Option Step) (o : Opening) (c : Files) → Stands o (ledger o []) c → Right follows o [] c
right_at_once None o c stands = stands
right_at_once (Some s) o c stands = inl stands

right_from_opening : (follows : Option Step) (o : Opening) (story : List Step) (c : Files) → Stands o (ledger o []) c → RightSince follows o story [] c
right_from_opening follows o [] c stands = right_at_once follows o c stands
right_from_opening follows o (s ∷ story) c stands = inr (right_from_opening (Some s) o story c stands)

rose-before : (n first mid last : ℕ) → first ≤ mid → RoseBy n mid last → RoseBy n first last
rose-before n first mid last later rose = omega arith

-- whatever a crash leaves at any moment of the opening or since is right after some step
pub right_throughout : (before mid now : State) (keys : List Key) (accounts : DomainEntries) (number : ℕ) (story : List Step)
    → IsTrue before.told → EachStands before accounts number → LeavesAsBefore before mid → Elapses before mid → Elapses mid now
    → CrashPrefix now (opening keys accounts number mid.moment) story
    → LeavesOnly before now (RightSince None (opening keys accounts number mid.moment) story [])
right_throughout before mid now keys accounts number story is_told each leaves first time crash c left = elim (time.nothing_else before.moment c first.later left) [
  | inl earlier ↦
      let as_before = leaves is_told c earlier in
      right_from_opening None (opening keys accounts number mid.moment) story c (as_before.same accounts number (each as_before.before as_before.was))
  | inr later ↦ (crash story [] (sym (append-nil story))).right c later
]

-- a run over what the opening left
pub tells_from : (status : Status) (before mid now : State) (keys : List Key) (accounts : DomainEntries) (number : ℕ) (events : List Event) (written all : Option (List ℕ))
    → IsTrue before.told → EachStands before accounts number → LeavesAsBefore before mid → Elapses before mid → Elapses mid now → before.faults ≤ mid.faults
    → Plays status mid now (opening keys accounts number mid.moment) events written all
    → Tells status before now (opening keys accounts number mid.moment) events written all
tells_from status before mid now keys accounts number events written all is_told each leaves first time faults plays = record {
  plays = record {
    story = plays.story;
    events_are = plays.events_are;
    steps = plays.steps;
    answered = plays.answered;
    stops = plays.stops;
    crash = plays.crash;
    faults = rose-before _ before.faults mid.faults now.faults faults plays.faults;
    shows = plays.shows;
  };
  opened = first.later;
  during = right_throughout before mid now keys accounts number plays.story is_told each leaves first time plays.crash;
}
