-- What a core's value is, and what it stands for: the ledger of a story.
use Rattle.std.specs.Prelude.{◌≡◌, ◌≤◌, false, IsTrue, List, [], length, map}
use Rattle.sdb_arrivals.specs.Queues.{Queues, in_line}
use Rattle.sdb_arrivals.specs.Tables.{Connections}
use Rattle.sdb_disk.specs.Disk.{State}
use Rattle.sdb_keys.specs.declared.keys.Key.{Key}
use Rattle.sdb_store.specs.Kept.{Contents, Keeps}
use Rattle.sdb_core.specs.Ledgers.{Ledger, Opening, changes_in, durable, held_by, number, seen}

-- what contracts see of a core
pub record View : Type 0 where
  pub keys : List Key
  pub table : Connections
  pub line : Queues
  pub store : Contents

-- the queues and the store are those of a ledger
pub record Agrees (line : Queues) (store : Contents) (o : Opening) (l : Ledger) : Type 0 where
  pub held : line.held ≡ map held_by l.held
  pub waiting : line.waiting ≡ map in_line l.waiting
  pub few : length l.held ≤ 64
  pub sound : store.sound ≡ l.sound
  pub pending : IsTrue l.sound → store.pending ≡ changes_in l.held
  pub accounts : IsTrue l.sound → store.accounts ≡ seen o l
  -- no answer that is held rests on changes that aren't durable, where none can become so
  pub resting : l.sound ≡ false → changes_in l.held ≡ []

-- and whatever a crash leaves stands for what the ledger says is durable
pub record Holds (line : Queues) (store : Contents) (s : State) (o : Opening) (l : Ledger) : Type 0 where
  pub agrees : Agrees line store o l
  pub keeps : Keeps store s (durable o l.groups) (number o l.groups) l.undecided
