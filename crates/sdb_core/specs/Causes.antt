-- Why a step answers what it answers: by event, and whatever the disk tells.
use Rattle.std.specs.Prelude.{◌≡◌, ℕ, ◌+◌, ◌-◌, ◌<◌, ◌≤◌, ◌^◌, ◌⊎◌, Bool, true, false, IsTrue, min, length}
use Rattle.sdb_arrivals.specs.Story.{Answer, Done, Full, Disk, NotAStore, OutOfMemory, Event, Opened, Piece, Ended, Commit, Work}
use Rattle.sdb_arrivals.specs.Tables.{Connections}
use Rattle.sdb_base.specs.Causes.{Rose}
use Rattle.sdb_disk.specs.Disk.{Files, State}
use Rattle.sdb_pairs.specs.Accounts.{DomainEntries}
use Rattle.sdb_record.specs.Stands.{IsFirstBad, StandsFor}
use Rattle.sdb_store.specs.Kept.{Contents}
use Rattle.sdb_store.specs.Opened.{IsBadFile}
use Rattle.sdb_core.specs.Kept.{View}

-- what an event needs: numbers of connections rise, and fewer than 2^48 bytes come in all
abbrev pub CanCome : Event → Connections → Type 0
CanCome (Opened conn) t = t.last_opened < conn
CanCome (Piece conn moment bytes) t = t.bytes_taken + length bytes < 2 ^ 48
CanCome (Ended conn) t = Unit {0}
CanCome Commit t = Unit {0}
CanCome Work t = Unit {0}

-- an event of a connection
abbrev pub is_of_connection : Event → Bool
is_of_connection (Opened conn) = true
is_of_connection (Piece conn moment bytes) = true
is_of_connection (Ended conn) = true
is_of_connection Commit = false
is_of_connection Work = false

-- a count rose by two, or stands at its greatest value
abbrev pub RoseTwice : ℕ → ℕ → Type 0
RoseTwice before now = min (before + 2) (2 ^ 64 - 1) ≤ now

-- a commit: a fault of the disk is told only where the count rose, and by two where a sound store ends unsound; on a
-- sound store it isn't Done only where the count rose; where it is Done, it made at most two syncs; it ends unsound
-- only where it isn't Done; a store that wasn't sound is so only where it is Done; a bad file is one of the four
pub record CommitCause (a : Answer) (old new : Contents) (before now : State) : Type 0 where
  pub later : before.faults ≤ now.faults
  pub disk : a ≡ Disk → Rose before.faults now.faults
  pub failed : old.sound ≡ true → (a ≡ Done → ⊥) → Rose before.faults now.faults
  pub twice : old.sound ≡ true → new.sound ≡ false → a ≡ Disk → RoseTwice before.faults now.faults
  pub syncs : old.sound ≡ true → a ≡ Done → now.syncs ≤ before.syncs + 2
  pub lost : new.sound ≡ false → a ≡ Done → ⊥
  pub found : old.sound ≡ false → new.sound ≡ true → a ≡ Done
  pub again : new.sound ≡ true → (a ≡ Done) ⊎ (a ≡ Disk)
  pub file : (k : ℕ) → a ≡ NotAStore k → k < 4
  pub answers : a ≡ Full → ⊥

-- background work: a sound store is lost exactly where a fault of the disk is told, and then the count rose
pub record WorkCause (a : Answer) (old new : Contents) (before now : State) : Type 0 where
  pub later : before.faults ≤ now.faults
  pub disk : a ≡ Disk → (old.sound ≡ true) × (new.sound ≡ false) × Rose before.faults now.faults
  pub kept : (a ≡ Disk → ⊥) → new.sound ≡ old.sound
  pub answers : (a ≡ Done) ⊎ (a ≡ Disk) ⊎ (a ≡ OutOfMemory)

-- the disk isn't touched, and the store is as sound as before
pub record NoDisk (old new : Contents) (before now : State) : Type 0 where
  pub sound : new.sound ≡ old.sound
  pub faults : now.faults ≡ before.faults
  pub syncs : now.syncs ≡ before.syncs
  pub moment : now.moment ≡ before.moment

-- an opening is done or Full
pub record OpenedCause (a : Answer) (old new : View) (before now : State) : Type 0 where
  pub disk : NoDisk old.store new.store before now
  pub answers : (a ≡ Done) ⊎ (a ≡ Full)

-- a piece is done, or there is no memory for it, and then the core is as before
pub record PieceCause (a : Answer) (old new : View) (before now : State) : Type 0 where
  pub disk : NoDisk old.store new.store before now
  pub answers : (a ≡ Done) ⊎ ((a ≡ OutOfMemory) × (new ≡ old))

-- an end is done
pub record EndedCause (a : Answer) (old new : View) (before now : State) : Type 0 where
  pub disk : NoDisk old.store new.store before now
  pub answers : a ≡ Done

-- the cause of an answer, by event
abbrev pub HasCause : Event → Answer → View → View → State → State → Type 0
HasCause (Opened conn) a old new before now = OpenedCause a old new before now
HasCause (Piece conn moment bytes) a old new before now = PieceCause a old new before now
HasCause (Ended conn) a old new before now = EndedCause a old new before now
HasCause Commit a old new before now = CommitCause a old.store new.store before now
HasCause Work a old new before now = WorkCause a old.store new.store before now

-- ---- the files

-- files that stand for some accounts
abbrev pub StandForSome : Files → Type 0
StandForSome c = (accounts : DomainEntries) × (number : ℕ) × StandsFor accounts number c

-- a commit opens the store again: it wasn't sound, or what was held couldn't be committed
abbrev pub OpensAgain : Answer → Contents → Type 0
OpensAgain a old = (old.sound ≡ false) ⊎ (a ≡ Done → ⊥)

-- What a commit finds in the files, where it opens the store again and the disk tells them. The store is sound after it only
-- on files that stand for accounts. NotAStore comes exactly where a file is bad, with the first one, unless the disk failed or
-- memory ended; and then the files are left as the opening read them. Those of a store that wasn't sound are read as they stood before.
pub record FindsFiles (a : Answer) (old new : Contents) (before now : State) : Type 0 where
  pub bad : (k : ℕ) → a ≡ NotAStore k → (new.sound ≡ false) × IsBadFile k now
  pub stand : OpensAgain a old → new.sound ≡ true → IsTrue now.told → StandForSome now.seen
  pub exactly : OpensAgain a old → IsTrue now.told → (k : ℕ) → k < 4 → IsFirstBad k now.seen
      → (a ≡ NotAStore k) ⊎ ((new.sound ≡ false) × ((a ≡ Disk) ⊎ (a ≡ OutOfMemory)))
  pub untouched : old.sound ≡ false → (k : ℕ) → a ≡ NotAStore k → now.seen ≡ before.seen
  pub stood : old.sound ≡ false → a ≡ Done → IsTrue before.told → StandForSome before.seen
  pub exactly_before : old.sound ≡ false → IsTrue before.told → (k : ℕ) → k < 4 → IsFirstBad k before.seen
      → (a ≡ NotAStore k) ⊎ ((a ≡ Disk) ⊎ (a ≡ OutOfMemory))

-- the same by event: only a commit opens the store again
abbrev pub Finds : Event → Answer → View → View → State → State → Type 0
Finds (Opened conn) a old new before now = Unit {0}
Finds (Piece conn moment bytes) a old new before now = Unit {0}
Finds (Ended conn) a old new before now = Unit {0}
Finds Commit a old new before now = FindsFiles a old.store new.store before now
Finds Work a old new before now = Unit {0}
