-- The workload, event by event.
use Rattle.std.proofs.Common.{◌≡◌, ℕ, ◌+◌, ◌-◌, ◌*◌, ◌<◌, ◌≤◌, ◌^◌, Bool, true, false, List, [], ◌∷◌, ◌++◌, length, map, Option, Some, None, refl, sym, ◌∙◌, ap, subst, append_assoc, append-nil, inl, inr, arith, length-append}
use Rattle.std.proofs.lemmas.List.{map-append}
use Rattle.std.specs.Io.KnownBytes.{Consumes}
use Rattle.std.specs.Option.{option_map}
use Rattle.std.specs.Prelude.{IsTrue}
use Rattle.sha2.specs.Hashers.{Holds256}
use Rattle.sdb_arrivals.specs.Story.{Answer, Done, Event as CoreEvent, Opened, Piece, Ended, Commit, Work, Step}
use Rattle.sdb_arrivals.specs.Tables.{Turns}
use Rattle.sdb_bench.specs.Measures.{AllDone, AllPlain}
use Rattle.sdb_bench.specs.Steps.{Carries, Played, StandsWithRoom}
use Rattle.sdb_bench.specs.declared.tally.Tally.{Tally}
use Rattle.sdb_bench.proofs.OpenLemmas.{has_place}
use Rattle.sdb_core.specs.Causes.{CanCome}
use Rattle.sdb_core.specs.Kept.{View}
use Rattle.sdb_core.specs.Ledgers.{Given, Ledger, Opening, arrived, comes, commits, count_released, filled, gives, if_sound, ledger, moves, released, works}
use Rattle.sdb_core.specs.Told.{StandsFor}
use Rattle.sdb_disk.specs.Disk.{State}
use Rattle.sdb_replay.specs.Events.{happened, happening}
use Rattle.sdb_replay.specs.Records.{HasRead, known_after}
use Rattle.sdb_replay.specs.Running.{Follows}
use Rattle.sdb_replay.specs.Shown.{shown, step_text}
use Rattle.sdb_replay.proofs.FollowLemmas.{can_happen, follows_more, some_size}
use Rattle.sdb_replay.proofs.RecordLemmas.{given_taken, read_event, read_more, read_none, script_cut, script_ends, script_wrong, tells_after}
use Rattle.sdb_script.specs.Connections.{none_opened}
use Rattle.sdb_script.specs.Events.{Event}
use Rattle.sdb_script.specs.Reading.{GivesEvent, IsBad, Reading, beginning, taken, with_more}
use Rattle.sdb_script.specs.Scripts.{IsScript}
use Rattle.sdb_script.specs.Spelled.{script_of}
use Rattle.sdb_script.specs.Workload.{happens_in, workload}
use Rattle.sdb_script.proofs.OneReading.{one_at_least, one_reading}
use Rattle.sdb_script.proofs.Spelling.{script-tells}
use Rattle.sdb_script.proofs.WorkloadScript.{is_small, may_all_come}
use Rattle.sdb_store.specs.Kept.{Ready}

-- ---- a sound store stays so

if-sound : (b : Bool) (o : Opening) (s : Step) (l : Ledger) → (if_sound b (filled o s.refused (arrived s.came l)) (arrived s.came l)).sound ≡ l.sound
if-sound true o s l = refl
if-sound false o s l = refl

moves-sound : (e : CoreEvent) (o : Opening) (s : Step) (l : Ledger) → s.answer ≡ Done → l.sound ≡ true → (moves e o s l).sound ≡ true
moves-sound (Opened conn) o s l done sound = sound
moves-sound (Piece conn moment bytes) o s l done sound = ap (λ a. (comes a o s l).sound) done ∙ if-sound l.sound o s l ∙ sound
moves-sound (Ended conn) o s l done sound = sound
moves-sound Commit o s l done sound = (λ i. (commits (sound i) (done i) o s l).sound) ∙ sound
moves-sound Work o s l done sound = ap (λ a. (works a l).sound) done ∙ sound

stays_sound : (o : Opening) (story : List Step) → AllDone story → (ledger o story).sound ≡ true
stays_sound o [] done = refl
stays_sound o (s ∷ story) done = moves-sound s.event o s (ledger o story) done.0 (stays_sound o story done.1)

-- ---- a story so far

plain_all : (given more : List Given) → AllPlain given → AllPlain more → AllPlain (given ++ more)
plain_all [] more plain further = further
plain_all (g ∷ given) more plain further = (plain.0, plain_all given more plain.1 further)

-- a story of the events so far: each step was done, each answer is plain, and they are counted and hashed
pub record Going (o : Opening) (core : View) (s : State) (events : List Event) (tally : Tally) : Type 0 where
  pub story : List Step
  pub events_are : happened story ≡ map happening events
  pub stands : StandsFor core s o story
  pub done : AllDone story
  pub plain : AllPlain (released o story)
  pub answers : tally.answers ≡ length (released o story)
  pub holds : Holds256 tally.hasher (shown o story)

going_more : (o : Opening) (core new : View) (s now : State) (events : List Event) (told : Event) (e : CoreEvent) (tally next : Tally) → Going o core s events tally
    → Carries e core new s now tally next → e ≡ happening told → Going o new now (events ++ told ∷ []) next
going_more o core new s now events told e tally next going carries happens =
    let c = carries.all o going.story going.stands in
    let l = ledger o going.story in
    let Shows : CoreEvent → Answer → Type 0 = λ f a.
    AllPlain (gives f a l) × ((next.answers ≡ tally.answers + length (gives f a l)) × Holds256 next.hasher (shown o going.story ++ step_text f a l)) in
    let shows : Shows c.s.event c.s.answer =
    subst (λ f. Shows f c.s.answer) (sym c.event) (subst (λ a. Shows e a) (sym c.answer) (c.plain, (c.answers, c.holds (shown o going.story) going.holds))) in record {
      story = c.s ∷ going.story;
      events_are = ap (λ hs. hs ++ c.s.event ∷ []) going.events_are ∙ ap (λ h. map happening events ++ h ∷ []) (c.event ∙ happens) ∙ sym (map-append happening events (told ∷ []));
      stands = c.stands;
      done = (c.answer, going.done);
      plain = plain_all (released o going.story) (gives c.s.event c.s.answer l) going.plain shows.0;
      answers = omega (arith, shows.1.0, going.answers, length-append (released o going.story) (gives c.s.event c.s.answer l));
      holds = shows.1.1;
    }

-- ---- how far the workload has come

pub record Playing (n : ℕ) (first core : View) (start s : State) (left : List ℕ) (reading : Reading) (tally : Tally) : Type 0 where
  pub given : List ℕ
  pub events : List Event
  pub whole : workload n ≡ given ++ left
  pub has_read : HasRead reading given events
  pub within : reading.at ≤ 2 ^ 40
  pub follows : Follows core.table reading
  pub quiet : core.line.out ≡ []
  pub ready : Ready core.store s
  pub told : IsTrue s.told
  pub room : tally.answers ≤ 64 * reading.at
  pub going : (o : Opening) → StandsFor first start o [] → Going o core s events tally

pub playing_none : (n : ℕ) (core : View) (start : State) (left : List ℕ) (tally : Tally) → left ≡ workload n → core.table.last_opened ≡ 0 → core.table.bytes_taken ≡ 0 → core.line.out ≡ []
    → Ready core.store start → IsTrue start.told → tally.answers ≡ 0 → Holds256 tally.hasher [] → Playing n core core start start left beginning tally
playing_none n core start left tally is opened taken_none quiet ready told none empty = record {
  given = [];
  events = [];
  whole = sym is;
  has_read = read_none;
  within = omega arith;
  follows = record { opened = omega (arith, opened); bytes = omega (arith, taken_none) };
  quiet = quiet;
  ready = ready;
  told = told;
  room = omega (arith, none);
  going = λ o stands. record { story = []; events_are = refl; stands = stands; done = tt; plain = tt; answers = none; holds = empty };
}

-- the script of the workload
is_script : (n : ℕ) → IsScript (workload n) (happens_in n) None
is_script n = script-tells none_opened 0 (happens_in n) (may_all_come n)

-- events that were read are a front of it
is_front : (n : ℕ) (reading : Reading) (given left : List ℕ) (events : List Event) → HasRead reading given events → workload n ≡ given ++ left → (more : List Event) × (events ++ more ≡ happens_in n)
is_front n reading given left events read whole =
    let rest = reading.held ++ left in
    let split : workload n ≡ script_of events ++ rest = whole ∙ ap (λ b. b ++ left) read.begins.bytes ∙ append_assoc (script_of events) reading.held left in
    let further = one_at_least (known_after none_opened events) (0 + length (script_of events)) rest in
    let tells = tells_after none_opened 0 events further.events rest further.wrong read.begins.may_come further.tells in (
      further.events,
      (one_reading none_opened 0 (workload n) (events ++ further.events) (happens_in n) further.wrong None
          (subst (λ b. IsScript b (events ++ further.events) further.wrong) (sym split) tells) (is_script n)).0,
    )

-- a place for a further connection
pub with_room : (n : ℕ) (first core : View) (start s : State) (left : List ℕ) (reading : Reading) (tally : Tally) → Playing n first core start s left reading tally
    → (o : Opening) → StandsFor first start o [] → StandsWithRoom core s
with_room n first core start s left reading tally playing o stands =
    let going = playing.going o stands in
    let further = is_front n reading playing.given left playing.events playing.has_read playing.whole in
    record { opening = o; story = going.story; stands = going.stands; room = has_place n playing.events further.0 (count_released o) going.story going.events_are further.1 }

-- ---- the reader is asked once more: it read on

module _ (n : ℕ) (first core : View) (start s : State) (left rest : List ℕ) (reading : Reading) (tally : Tally) (more : List ℕ)
    (playing : Playing n first core start s left reading tally) (read_on : Consumes (Some left) (Some rest) more) where
  abbrev given_all : List ℕ
  given_all = playing.given ++ more

  whole_now : workload n ≡ given_all ++ rest
  whole_now = playing.whole ∙ ap (λ l. playing.given ++ l) read_on ∙ sym (append_assoc playing.given more rest)

  has_read_all : HasRead (with_more reading more) given_all playing.events
  has_read_all = read_more reading playing.given more playing.events playing.has_read

  -- no record is wrong
  none_is_wrong : (at : ℕ) → IsScript (given_all ++ rest) playing.events (Some at) → ⊥
  none_is_wrong at wrong =
      let other = one_reading none_opened 0 (given_all ++ rest) (happens_in n) playing.events None (Some at) (subst (λ b. IsScript b (happens_in n) None) whole_now (is_script n)) wrong in
      let none : None ≡ Some at = other.1 in absurd cc

  all_read : rest ≡ [] → workload n ≡ given_all
  all_read none = whole_now ∙ ap (λ l. given_all ++ l) none ∙ append-nil given_all

  pub no_bad : IsBad (2 ^ 40) (with_more reading more) (Some rest) → ⊥
  no_bad (inl wrong) = none_is_wrong reading.at (script_wrong (with_more reading more) given_all playing.events has_read_all wrong rest)
  no_bad (inr cut) =
      none_is_wrong reading.at (subst (λ b. IsScript b playing.events (Some reading.at)) (sym (all_read cut.2.0) ∙ whole_now)
      (script_cut (with_more reading more) given_all playing.events has_read_all cut.0 cut.1))

  -- nor is it too long
  pub no_long : n ≤ 100 → taken (with_more reading more) ≡ 2 ^ 40 → ⊥
  no_long most long =
      absurd (omega (arith, is_small n most, long, given_taken (with_more reading more) given_all playing.events has_read_all, ap length whole_now, length-append given_all rest))

  -- it is at its end
  pub plays_all : (told : Option Event) (next : Reading) → None ≡ option_map happening told → GivesEvent (2 ^ 40) told (with_more reading more) next (Some rest)
      → (o : Opening) → StandsFor first start o [] → Played n o core tally
  plays_all (Some told) next none gives o stands = absurd cc
  plays_all None next none gives o stands =
      let going = playing.going o stands in
      let ended = script_ends (with_more reading more) given_all playing.events has_read_all gives.0 in
      let same = one_reading none_opened 0 (workload n) playing.events (happens_in n) None None (subst (λ b. IsScript b playing.events None) (sym (all_read gives.1.0)) ended) (is_script n) in record {
        story = going.story;
        events_are = going.events_are ∙ ap (map happening) same.0;
        steps = going.stands.steps;
        done = going.done;
        plain = going.plain;
        answers = going.answers;
        holds = going.holds;
        accounts = going.stands.holds.agrees.accounts (stays_sound o going.story going.done);
      }

  -- an event, which the core can take
  pub can_come : (e : CoreEvent) (told : Option Event) (next : Reading) → Some e ≡ option_map happening told → GivesEvent (2 ^ 40) told (with_more reading more) next (Some rest)
      → CanCome e core.table
  can_come e None next is gives = absurd cc
  can_come e (Some told) next is gives =
      let same : happening told ≡ e = cc in
      subst (λ h. CanCome h core.table) same (can_happen core.table (with_more reading more) told gives.0 (record { opened = playing.follows.opened; bytes = playing.follows.bytes }) playing.within gives.1)

  -- and it comes nearer to the end
  pub reads_on : (e : CoreEvent) (told : Option Event) (next : Reading) → Some e ≡ option_map happening told → GivesEvent (2 ^ 40) told (with_more reading more) next (Some rest)
      → reading.at < next.at
  reads_on e None next is gives = absurd cc
  reads_on e (Some told) next is gives = omega (arith, ap (λ (r : Reading). r.at) gives.2, some_size (with_more reading more) told gives.0 gives.1)

  -- and goes on
  pub plays_on : (new : View) (now : State) (further : Tally) (e : CoreEvent) (told : Option Event) (next : Reading) → Some e ≡ option_map happening told
      → GivesEvent (2 ^ 40) told (with_more reading more) next (Some rest) → next.at ≤ 2 ^ 40 → Carries e core new s now tally further
      → Ready new.store now → IsTrue now.told → Playing n first new start now rest next further
  plays_on new now further e None next is gives within carries ready told = absurd cc
  plays_on new now further e (Some told) next is gives within carries ready is_told =
      let happens : e ≡ happening told = cc in record {
        given = given_all;
        events = playing.events ++ told ∷ [];
        whole = whole_now;
        has_read = subst (λ r. HasRead r given_all (playing.events ++ told ∷ [])) (sym gives.2)
            (read_event (with_more reading more) given_all playing.events told gives.0 has_read_all gives.1);
        within = within;
        follows = subst (λ r. Follows new.table r) (sym gives.2)
            (follows_more core.table new.table (with_more reading more) told gives.0 carries.released Done carries.came
            (record { opened = playing.follows.opened; bytes = playing.follows.bytes }) gives.1
            (subst (λ h. Turns h Done carries.released carries.came core.table new.table) happens carries.turns));
        quiet = carries.quiet;
        ready = ready;
        told = is_told;
        room = omega (arith, playing.room, carries.few, ap (λ (r : Reading). r.at) gives.2, some_size (with_more reading more) told gives.0 gives.1);
        going = λ o stands. going_more o core new s now playing.events told e tally further (playing.going o stands) carries happens;
      }
