-- A run of a script, event by event.
use Rattle.std.proofs.Common.{◌≡◌, ℕ, ◌+◌, ◌-◌, ◌<◌, ◌≤◌, ◌^◌, min, List, [], ◌∷◌, ◌++◌, length, map, take, Option, Some, None, refl, sym, ◌∙◌, ap, subst, append_assoc, inl, inr, arith}
use Rattle.std.proofs.KnownBytes.{Appends-nil, Appends-trans, Consumes-nil, Consumes-trans}
use Rattle.std.proofs.Math.Seq.{take-append-add}
use Rattle.std.proofs.lemmas.List.{length-append, map-append}
use Rattle.std.specs.Io.KnownBytes.{Appends, Consumes, IsAtEnd}
use Rattle.std.specs.Option.{option_map}
use Rattle.std.specs.Prelude.{IsTrue}
use Rattle.sdb_arrivals.specs.Story.{Answer, NotAStore as BadFiles, Step}
use Rattle.sdb_arrivals.specs.Story as story
use Rattle.sdb_arrivals.specs.Tables.{Turns}
use Rattle.sdb_base.specs.Causes.{Rose}
use Rattle.sdb_core.specs.Causes.{CanCome}
use Rattle.sdb_core.specs.Kept.{View}
use Rattle.sdb_core.specs.Ledgers.{Opening, ledger}
use Rattle.sdb_core.specs.Told.{RoseBy, StandsFor, faults_in, faults_of}
use Rattle.sdb_disk.specs.Disk.{Elapses, State}
use Rattle.sdb_disk.proofs.CallLemmas.{Elapses-trans}
use Rattle.sdb_script.specs.Events.{Event}
use Rattle.sdb_script.specs.Fronts.{front, Whole}
use Rattle.sdb_script.specs.Reading.{Gives, GivesEvent, GivesFault, Reading, beginning, past_record, with_more}
use Rattle.sdb_script.specs.declared.fault.ScriptFault.{ScriptFault}
use Rattle.sdb_script.specs.declared.fault.ScriptFault.TheVariants as fault
use Rattle.sdb_status.specs.declared.status.Status.{Status}
use Rattle.sdb_status.specs.declared.status.Status.TheVariants.{Done, Usage, ReadFault, OutOfMemory, WriteFault, DiskFault, BadKeys, BadScript, NotAStore, LinkFault, InputTooLong}
use Rattle.sdb_store.specs.Kept.{Ready}
use Rattle.sdb_replay.specs.Endings.{AppendsFront, AreAnswered, Plays, Reads, Shows, Stops, GoOnToLast}
use Rattle.sdb_replay.specs.Events.{AllGoOn, ending, happened, happening}
use Rattle.sdb_replay.specs.Records.{HasRead}
use Rattle.sdb_replay.specs.Running.{Carried, Carries, CarriesOn, CarriesTo, Follows, status_by}
use Rattle.sdb_replay.specs.Shown.{shown, step_text}
use Rattle.sdb_replay.proofs.FollowLemmas.{can_happen, follows_more, some_size}
use Rattle.sdb_replay.proofs.RecordLemmas.{given_taken, read_event, read_more, read_none, script_cut, script_ends, script_unjudged, script_wrong}
use Rattle.sdb_replay.proofs.StepLemmas.{front_none, front_of}

-- ---- one opening's story

-- a story of the events so far, over which the run goes on, and what was written is what it shows
pub record Going (start now : State) (o : Opening) (core : View) (events : List Event) (written all : Option (List ℕ)) : Type 0 where
  pub story : List Step
  pub events_are : happened story ≡ map happening events
  pub stands : StandsFor core now o story
  pub answered : AreAnswered o story
  pub go_on : AllGoOn story
  pub faults : RoseBy (faults_in o story) start.faults now.faults
  pub shows : Appends written all (shown o story)

going_none : (start : State) (o : Opening) (core : View) (written : Option (List ℕ)) → StandsFor core start o [] → Going start start o core [] written written
going_none start o core written stands = record {
  story = [];
  events_are = refl;
  stands = stands;
  answered = tt;
  go_on = tt;
  faults = omega arith;
  shows = Appends-nil written;
}

-- a count that rose twice
rose-more : (n m first mid last : ℕ) → RoseBy n first mid → RoseBy m mid last → RoseBy (n + m) first last
rose-more n m first mid last one other = omega arith

module _ (start s now : State) (o : Opening) (core new : View) (told : Event) (e : story.Event) (a : Answer) (events : List Event) (written mid all : Option (List ℕ))
    (Wrote : List ℕ → Type 0) (going : Going start s o core events written mid) (happens : e ≡ happening told) (carried : Carried Wrote e a new s now o going.story) where
  abbrev longer : List Step
  longer = carried.s ∷ going.story

  events_next : happened longer ≡ map happening (events ++ told ∷ [])
  events_next =
      ap (λ hs. hs ++ carried.s.event ∷ []) going.events_are ∙ ap (λ h. map happening events ++ h ∷ []) (carried.event ∙ happens)
      ∙ sym (map-append happening events (told ∷ []))

  faults_next : RoseBy (faults_in o longer) start.faults now.faults
  faults_next = rose-more (faults_in o going.story) (faults_of (ledger o going.story).sound carried.s.event carried.s.answer) start.faults s.faults now.faults going.faults
      (subst (λ f. RoseBy (faults_of (ledger o going.story).sound f carried.s.answer) s.faults now.faults) (sym carried.event)
      (subst (λ b. RoseBy (faults_of (ledger o going.story).sound e b) s.faults now.faults) (sym carried.answer) carried.counted))

  wrote_next : Wrote (step_text carried.s.event carried.s.answer (ledger o going.story))
  wrote_next =
      subst (λ f. Wrote (step_text f carried.s.answer (ledger o going.story))) (sym carried.event)
      (subst (λ b. Wrote (step_text e b (ledger o going.story))) (sym carried.answer) carried.wrote)

  go_on_next : ending e a ≡ None → AllGoOn longer
  go_on_next goes = ((λ k. ending (carried.event k) (carried.answer k)) ∙ goes, going.go_on)

-- one event more
going_more : (start s now : State) (o : Opening) (core new : View) (told : Event) (e : story.Event) (a : Answer) (events : List Event) (written mid all : Option (List ℕ))
    → Carries (Appends mid all) e a core new s now → IsTrue s.told → ending e a ≡ None → e ≡ happening told → Going start s o core events written mid
    → Going start now o new (events ++ told ∷ []) written all
going_more start s now o core new told e a events written mid all carries is_told goes happens going =
    let carried = carries is_told o going.story going.stands in record {
      story = carried.s ∷ going.story;
      events_are = events_next start s now o core new told e a events written mid all (Appends mid all) going happens carried;
      stands = carried.stands;
      answered = (carried.answered, going.answered);
      go_on = go_on_next start s now o core new told e a events written mid all (Appends mid all) going happens carried goes;
      faults = faults_next start s now o core new told e a events written mid all (Appends mid all) going happens carried;
      shows = Appends-trans written mid all (shown o going.story) (step_text carried.s.event carried.s.answer (ledger o going.story)) going.shows
          (wrote_next start s now o core new told e a events written mid all (Appends mid all) going happens carried);
    }

-- ---- how it ends

-- a front of what comes behind what is written
front_more : (written mid all : Option (List ℕ)) (text more : List ℕ) → Appends written mid text → AppendsFront mid all more → AppendsFront written all (text ++ more)
front_more written mid all text more appends front = (
  length text + front.0,
  omega (arith, front.1, length-append text more),
  subst (λ t. Appends written all t) (sym (take-append-add text more front.0)) (Appends-trans written mid all text (take front.0 more) appends front.2),
)

go_to_last : (story : List Step) → AllGoOn story → GoOnToLast story
go_to_last [] go_on = tt
go_to_last (s ∷ story) go_on = go_on.1

-- the last event ended it
plays_to : (status : Status) (start s now : State) (o : Opening) (core new : View) (told : Event) (e : story.Event) (events : List Event) (written mid all : Option (List ℕ))
    → CarriesTo status e core new s now mid all → IsTrue s.told → e ≡ happening told → Going start s o core events written mid
    → Plays status start now o (events ++ told ∷ []) written all
plays_to OutOfMemory start s now o core new told e events written mid all ends is_told happens going =
    let carried = ends.1 is_told o going.story going.stands in record {
      story = carried.s ∷ going.story;
      events_are = events_next start s now o core new told e ends.0 events written mid all (AppendsFront mid all) going happens carried;
      steps = carried.stands.steps;
      answered = (carried.answered, going.answered);
      stops = going.go_on;
      crash = carried.stands.crash;
      faults = faults_next start s now o core new told e ends.0 events written mid all (AppendsFront mid all) going happens carried;
      shows = front_more written mid all (shown o going.story) (step_text carried.s.event carried.s.answer (ledger o going.story)) going.shows
          (wrote_next start s now o core new told e ends.0 events written mid all (AppendsFront mid all) going happens carried);
    }
plays_to WriteFault start s now o core new told e events written mid all ends is_told happens going =
    let carried = ends.1 is_told o going.story going.stands in record {
      story = carried.s ∷ going.story;
      events_are = events_next start s now o core new told e ends.0 events written mid all (AppendsFront mid all) going happens carried;
      steps = carried.stands.steps;
      answered = (carried.answered, going.answered);
      stops = going.go_on;
      crash = carried.stands.crash;
      faults = faults_next start s now o core new told e ends.0 events written mid all (AppendsFront mid all) going happens carried;
      shows = front_more written mid all (shown o going.story) (step_text carried.s.event carried.s.answer (ledger o going.story)) going.shows
          (wrote_next start s now o core new told e ends.0 events written mid all (AppendsFront mid all) going happens carried);
    }
plays_to (NotAStore file) start s now o core new told e events written mid all ends is_told happens going =
    let carried = ends is_told o going.story going.stands in record {
      story = carried.s ∷ going.story;
      events_are = events_next start s now o core new told e (BadFiles file) events written mid all (Appends mid all) going happens carried;
      steps = carried.stands.steps;
      answered = (carried.answered, going.answered);
      stops = (carried.answer, going.go_on);
      crash = carried.stands.crash;
      faults = faults_next start s now o core new told e (BadFiles file) events written mid all (Appends mid all) going happens carried;
      shows = Appends-trans written mid all (shown o going.story) (step_text carried.s.event carried.s.answer (ledger o going.story)) going.shows
          (wrote_next start s now o core new told e (BadFiles file) events written mid all (Appends mid all) going happens carried);
    }
plays_to Done start s now o core new told e events written mid all ends is_told happens going = absurd ends
plays_to Usage start s now o core new told e events written mid all ends is_told happens going = absurd ends
plays_to ReadFault start s now o core new told e events written mid all ends is_told happens going = absurd ends
plays_to DiskFault start s now o core new told e events written mid all ends is_told happens going = absurd ends
plays_to (BadKeys line) start s now o core new told e events written mid all ends is_told happens going = absurd ends
plays_to (BadScript at) start s now o core new told e events written mid all ends is_told happens going = absurd ends
plays_to LinkFault start s now o core new told e events written mid all ends is_told happens going = absurd ends
plays_to InputTooLong start s now o core new told e events written mid all ends is_told happens going = absurd ends

-- the script ended
plays_done : (start s : State) (o : Opening) (core : View) (events : List Event) (written all : Option (List ℕ))
    → Going start s o core events written all → Plays Done start s o events written all
plays_done start s o core events written all going = record {
  story = going.story;
  events_are = going.events_are;
  steps = going.stands.steps;
  answered = going.answered;
  stops = going.go_on;
  crash = going.stands.crash;
  faults = going.faults;
  shows = going.shows;
}

-- or it couldn't be read on
plays_fault : (broke : ScriptFault) (start s : State) (o : Opening) (core : View) (events : List Event) (written all : Option (List ℕ))
    → Going start s o core events written all → Plays (status_by broke) start s o events written all
plays_fault (fault.Bad at) start s o core events written all going = record {
  story = going.story;
  events_are = going.events_are;
  steps = going.stands.steps;
  answered = going.answered;
  stops = going.go_on;
  crash = going.stands.crash;
  faults = going.faults;
  shows = going.shows;
}
plays_fault fault.Read start s o core events written all going = record {
  story = going.story;
  events_are = going.events_are;
  steps = going.stands.steps;
  answered = going.answered;
  stops = going.go_on;
  crash = going.stands.crash;
  faults = going.faults;
  shows = going.shows;
}
plays_fault fault.TooLong start s o core events written all going = record {
  story = going.story;
  events_are = going.events_are;
  steps = going.stands.steps;
  answered = going.answered;
  stops = going.go_on;
  crash = going.stands.crash;
  faults = going.faults;
  shows = going.shows;
}
plays_fault fault.OutOfMemory start s o core events written all going = record {
  story = going.story;
  events_are = going.events_are;
  steps = going.stands.steps;
  answered = going.answered;
  stops = go_to_last going.story going.go_on;
  crash = going.stands.crash;
  faults = going.faults;
  shows = front_of written all (shown o going.story) going.shows;
}

-- ---- what was read

-- how far the script was read where it couldn't be read on
reads_fault : (broke : ScriptFault) (read : Reading) (given : List ℕ) (events : List Event) (rest : Option (List ℕ)) → HasRead read given events
    → GivesFault (2 ^ 40) broke read rest → Reads (status_by broke) rest given events
reads_fault (fault.Bad at) read given events rest has_read gives =
    subst (λ n. Reads (BadScript n) rest given events) (sym gives.0)
    (elim gives.1 [
      | inl wrong ↦ inl (script_wrong read given events has_read wrong)
      | inr cut ↦ inr (cut.2.0, omega (arith, given_taken read given events has_read, cut.2.1), script_cut read given events has_read cut.0 cut.1)
    ])
reads_fault fault.Read read given events rest has_read gives =
    (script_unjudged read given events has_read gives.0, omega (arith, given_taken read given events has_read, gives.1))
reads_fault fault.TooLong read given events rest has_read gives =
    (script_unjudged read given events has_read gives.0, given_taken read given events has_read ∙ gives.1)
reads_fault fault.OutOfMemory read given events rest has_read gives = (read.held, has_read.begins)

-- and where it ended
reads_done : (read next : Reading) (given : List ℕ) (events : List Event) (rest : Option (List ℕ)) → HasRead read given events
    → GivesEvent (2 ^ 40) None read next rest → Reads Done rest given events
reads_done read next given events rest has_read gives =
    (gives.1.0, omega (arith, given_taken read given events has_read, gives.1.1), script_ends read given events has_read gives.0)

-- the last event ended it: the input began with its record
reads_to : (status : Status) (e : story.Event) (core new : View) (s now : State) (mid all rest : Option (List ℕ)) (read : Reading) (given : List ℕ) (events : List Event)
    → CarriesTo status e core new s now mid all → HasRead read given events → Reads status rest given events
reads_to OutOfMemory e core new s now mid all rest read given events ends has_read = (read.held, has_read.begins)
reads_to WriteFault e core new s now mid all rest read given events ends has_read = (read.held, has_read.begins)
reads_to (NotAStore file) e core new s now mid all rest read given events ends has_read = (read.held, has_read.begins)
reads_to Done e core new s now mid all rest read given events ends has_read = absurd ends
reads_to Usage e core new s now mid all rest read given events ends has_read = absurd ends
reads_to ReadFault e core new s now mid all rest read given events ends has_read = absurd ends
reads_to DiskFault e core new s now mid all rest read given events ends has_read = absurd ends
reads_to (BadKeys line) e core new s now mid all rest read given events ends has_read = absurd ends
reads_to (BadScript at) e core new s now mid all rest read given events ends has_read = absurd ends
reads_to LinkFault e core new s now mid all rest read given events ends has_read = absurd ends
reads_to InputTooLong e core new s now mid all rest read given events ends has_read = absurd ends

-- ---- the loop

-- how far a run has come
pub record Playing (first core : View) (start s : State) (left rest written all : Option (List ℕ)) (reading : Reading) : Type 0 where
  pub given : List ℕ
  pub events : List Event
  pub read : Consumes left rest given
  pub has_read : HasRead reading given events
  pub within : reading.at ≤ 2 ^ 40
  pub follows : Follows core.table reading
  pub quiet : core.line.out ≡ []
  pub ready : Ready core.store s
  pub time : Elapses start s
  pub told : s.told ≡ start.told
  pub going : IsTrue start.told → (o : Opening) → StandsFor first start o [] → Going start s o core events written all

pub playing_none : (core : View) (start : State) (left written : Option (List ℕ)) → core.table.last_opened ≡ 0 → core.table.bytes_taken ≡ 0 → core.line.out ≡ []
    → Ready core.store start → Elapses start start → Playing core core start start left left written written beginning
playing_none core start left written opened taken quiet ready time = record {
  given = [];
  events = [];
  read = Consumes-nil left;
  has_read = read_none;
  within = omega arith;
  follows = record { opened = omega (arith, opened); bytes = omega (arith, taken) };
  quiet = quiet;
  ready = ready;
  time = time;
  told = refl;
  going = λ is_told o stands. going_none start o core written stands;
}

-- what a run has come to when the reader is asked once more: it read on
module _ (first core : View) (start s : State) (left mid rest written all : Option (List ℕ)) (reading : Reading) (more : List ℕ)
    (playing : Playing first core start s left mid written all reading) (read_on : Consumes mid rest more) where
  read_all : Consumes left rest (playing.given ++ more)
  read_all = Consumes-trans left mid rest playing.given more playing.read read_on

  has_read_all : HasRead (with_more reading more) (playing.given ++ more) playing.events
  has_read_all = read_more reading playing.given more playing.events playing.has_read

  -- no further event
  pub stops_reading : (status : Status) → Reads status rest (playing.given ++ more) playing.events
      → ((o : Opening) → Going start s o core playing.events written all → Plays status start s o playing.events written all)
      → (given : List ℕ) × (events : List Event) × Consumes left rest given × Reads status rest given events
      × (IsTrue start.told → (o : Opening) → StandsFor first start o [] → Plays status start s o events written all)
  stops_reading status reads plays =
      (playing.given ++ more, playing.events, read_all, reads, λ is_told o stands. plays o (playing.going is_told o stands))

  pub ends_fault : (broke : ScriptFault) (status : Status) → status ≡ status_by broke → GivesFault (2 ^ 40) broke (with_more reading more) rest
      → (given : List ℕ) × (events : List Event) × Consumes left rest given × Reads status rest given events
      × (IsTrue start.told → (o : Opening) → StandsFor first start o [] → Plays status start s o events written all)
  ends_fault broke status is gives =
      stops_reading status
      (subst (λ x. Reads x rest (playing.given ++ more) playing.events) (sym is) (reads_fault broke (with_more reading more) (playing.given ++ more) playing.events rest has_read_all gives))
      (λ o going. subst (λ x. Plays x start s o playing.events written all) (sym is) (plays_fault broke start s o core playing.events written all going))

  pub ends_done : (told : Option Event) (next : Reading) → None ≡ option_map happening told → GivesEvent (2 ^ 40) told (with_more reading more) next rest
      → (given : List ℕ) × (events : List Event) × Consumes left rest given × Reads Done rest given events
      × (IsTrue start.told → (o : Opening) → StandsFor first start o [] → Plays Done start s o events written all)
  ends_done None next none gives =
      stops_reading Done (reads_done (with_more reading more) next (playing.given ++ more) playing.events rest has_read_all gives)
      (λ o going. plays_done start s o core playing.events written all going)
  ends_done (Some told) next none gives = absurd cc

  -- an event, which the core can take
  pub can_come : (e : story.Event) (told : Option Event) (next : Reading) → Some e ≡ option_map happening told → GivesEvent (2 ^ 40) told (with_more reading more) next rest
      → CanCome e core.table
  can_come e None next is gives = absurd cc
  can_come e (Some told) next is gives =
      let same : happening told ≡ e = cc in
      subst (λ h. CanCome h core.table) same (can_happen core.table (with_more reading more) told gives.0 (record { opened = playing.follows.opened; bytes = playing.follows.bytes }) playing.within gives.1)

  -- and the run goes on
  pub plays_on : (new : View) (now : State) (further : Option (List ℕ)) (e : story.Event) (told : Option Event) (next : Reading) → Some e ≡ option_map happening told
      → GivesEvent (2 ^ 40) told (with_more reading more) next rest → next.at ≤ 2 ^ 40 → CarriesOn e core new s now all further
      → Ready new.store now → Elapses s now → now.told ≡ s.told → Playing first new start now left rest written further next
  plays_on new now further e None next is gives within carries ready time same = absurd cc
  plays_on new now further e (Some told) next is gives within carries ready time same =
      let happens : e ≡ happening told = cc in record {
        given = playing.given ++ more;
        events = playing.events ++ told ∷ [];
        read = read_all;
        has_read = subst (λ r. HasRead r (playing.given ++ more) (playing.events ++ told ∷ [])) (sym gives.2)
            (read_event (with_more reading more) (playing.given ++ more) playing.events told gives.0 has_read_all gives.1);
        within = within;
        follows = subst (λ r. Follows new.table r) (sym gives.2)
            (follows_more core.table new.table (with_more reading more) told gives.0 carries.released carries.answer carries.came
            (record { opened = playing.follows.opened; bytes = playing.follows.bytes }) gives.1
            (subst (λ h. Turns h carries.answer carries.released carries.came core.table new.table) happens carries.turns));
        quiet = carries.quiet;
        ready = ready;
        time = Elapses-trans start s now playing.time time;
        told = same ∙ playing.told;
        going = λ is_told o stands.
            going_more start s now o core new told e carries.answer playing.events written all further carries.carries (subst IsTrue (sym playing.told) is_told) carries.goes happens
            (playing.going is_told o stands);
      }

  -- and it comes nearer to the end
  pub reads_on : (e : story.Event) (told : Option Event) (next : Reading) → Some e ≡ option_map happening told → GivesEvent (2 ^ 40) told (with_more reading more) next rest
      → reading.at < next.at
  reads_on e None next is gives = absurd cc
  reads_on e (Some told) next is gives = omega (arith, ap (λ (r : Reading). r.at) gives.2, some_size (with_more reading more) told gives.0 gives.1)

  -- or the run ends
  pub ends_to : (status : Status) (new : View) (now : State) (further : Option (List ℕ)) (e : story.Event) (told : Option Event) (next : Reading) → Some e ≡ option_map happening told
      → GivesEvent (2 ^ 40) told (with_more reading more) next rest → CarriesTo status e core new s now all further
      → (given : List ℕ) × (events : List Event) × Consumes left rest given × Reads status rest given events
      × (IsTrue start.told → (o : Opening) → StandsFor first start o [] → Plays status start now o events written further)
  ends_to status new now further e None next is gives ends = absurd cc
  ends_to status new now further e (Some told) next is gives ends =
      let happens : e ≡ happening told = cc in (
        playing.given ++ more,
        playing.events ++ told ∷ [],
        read_all,
        reads_to status e core new s now all further rest (past_record (with_more reading more) told gives.0) (playing.given ++ more) (playing.events ++ told ∷ []) ends
            (read_event (with_more reading more) (playing.given ++ more) playing.events told gives.0 has_read_all gives.1),
        λ is_told o stands.
            plays_to status start s now o core new told e playing.events written all further ends (subst IsTrue (sym playing.told) is_told) happens (playing.going is_told o stands),
      )

-- ---- causes

-- a count that rose since
pub rose_since : (first mid last : ℕ) → first ≤ mid → Rose mid last → Rose first last
rose_since first mid last later rose = omega arith

-- the input is blamed where it failed
pub is_read : (broke : ScriptFault) → status_by broke ≡ ReadFault → broke ≡ fault.Read
is_read (fault.Bad at) is = absurd cc
is_read fault.Read is = refl
is_read fault.TooLong is = absurd cc
is_read fault.OutOfMemory is = absurd cc
