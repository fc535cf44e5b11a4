-- What one step of a workload does, and what all of them did.
use Rattle.std.specs.Prelude.{◌≡◌, ℕ, ◌+◌, ◌<◌, Bool, ◌||◌, ◌==◌, IsTrue, List, [], ◌∷◌, ◌++◌, length, map, codes, false}
use Rattle.std.specs.List.{starts_with}
use Rattle.sha2.specs.Hashers.{Holds256}
use Rattle.sdb_arrivals.specs.Framing.{live}
use Rattle.sdb_arrivals.specs.Queues.{Sent}
use Rattle.sdb_arrivals.specs.Story.{Done, Event, Framed, Step}
use Rattle.sdb_arrivals.specs.Tables.{Turns}
use Rattle.sdb_bench.specs.declared.tally.Tally.{Tally}
use Rattle.sdb_core.specs.Kept.{View}
use Rattle.sdb_core.specs.Ledgers.{Opening, count_released, gives, ledger, released, seen}
use Rattle.sdb_core.specs.Told.{AreSteps, StandsFor}
use Rattle.sdb_disk.specs.Disk.{Settled, State}
use Rattle.sdb_replay.specs.Events.{happened, happening}
use Rattle.sdb_replay.specs.Shown.{sent_texts, shown, step_text}
use Rattle.sdb_script.specs.Workload.{happens_in}
use Rattle.sdb_bench.specs.Measures.{AllDone, AllPlain}

-- a disk of four empty files
pub record IsNew (s : State) : Type 0 where
  pub told : IsTrue s.told
  pub settled : Settled s
  pub empty : (k : ℕ) → s.seen k ≡ []

-- ---- answers

-- a response that says that memory was lacking, or that the disk failed
abbrev pub is_unserved : List ℕ → Bool
is_unserved response =
    starts_with (λ a b. a == b) response (codes "HTTP/1.1 500") || starts_with (λ a b. a == b) response (codes "HTTP/1.1 503")

-- no answer says so
abbrev pub AllServed : List Sent → Type 0
AllServed [] = Unit {0}
AllServed (s ∷ sent) = (is_unserved s.bytes ≡ false) × AllServed sent

-- answers were taken: they are counted, and their records are hashed behind what was hashed
pub record Takes (sent : List Sent) (old new : Tally) : Type 0 where
  pub served : AllServed sent
  pub answers : new.answers ≡ old.answers + length sent
  pub holds : (text : List ℕ) → Holds256 old.hasher text → Holds256 new.hasher (text ++ sent_texts sent)

-- ---- one step

-- the core and the disk stand for a story, and there is a place for a further connection
pub record StandsWithRoom (k : View) (s : State) : Type 0 where
  pub opening : Opening
  pub story : List Step
  pub stands : StandsFor k s opening story
  pub room : length (live (count_released opening) story) < 64

-- one event, of a story: it was done, its answers are plain, and they are counted and hashed
pub record Carried (e : Event) (new : View) (now : State) (tally next : Tally) (o : Opening) (story : List Step) : Type 0 where
  pub s : Step
  pub event : s.event ≡ e
  pub answer : s.answer ≡ Done
  pub stands : StandsFor new now o (s ∷ story)
  pub plain : AllPlain (gives e Done (ledger o story))
  pub answers : next.answers ≡ tally.answers + length (gives e Done (ledger o story))
  pub holds : (text : List ℕ) → Holds256 tally.hasher text → Holds256 next.hasher (text ++ step_text e Done (ledger o story))

-- the same of every story for which core and disk stood, and what it makes of the connections
pub record Carries (e : Event) (old new : View) (before now : State) (tally next : Tally) : Type 0 where
  pub released : ℕ
  pub came : List Framed
  pub turns : Turns e Done released came old.table new.table
  pub quiet : new.line.out ≡ []
  pub few : next.answers < tally.answers + 65
  pub all : (o : Opening) (story : List Step) → StandsFor old before o story → Carried e new now tally next o story

-- ---- all of them

-- a story of the workload: each step was done, each answer is plain, and they are counted and hashed
pub record Played (n : ℕ) (o : Opening) (k : View) (tally : Tally) : Type 0 where
  pub story : List Step
  pub events_are : happened story ≡ map happening (happens_in n)
  pub steps : AreSteps o story
  pub done : AllDone story
  pub plain : AllPlain (released o story)
  pub answers : tally.answers ≡ length (released o story)
  pub holds : Holds256 tally.hasher (shown o story)
  pub accounts : k.store.accounts ≡ seen o (ledger o story)
