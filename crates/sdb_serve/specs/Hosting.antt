-- A server from its keys to its end.
use Rattle.std.specs.Prelude.{◌≡◌, ◌⊎◌, ◌≤◌, ℕ, List, [], IsTrue, None}
use Rattle.std.specs.declared.option.Option.{Option}
use Rattle.sdb_core.specs.Kept.{View}
use Rattle.sdb_core.specs.Ledgers.{Opening}
use Rattle.sdb_core.specs.Prefix.{RightSince}
use Rattle.sdb_core.specs.Told.{StandsFor}
use Rattle.sdb_disk.specs.Disk as disk
use Rattle.sdb_io.specs.Links as links
use Rattle.sdb_keys.specs.declared.keys.Key.{Key}
use Rattle.sdb_pairs.specs.Accounts.{DomainEntries}
use Rattle.sdb_replay.specs.Endings.{EachStands, LeavesAsBefore, opening}
use Rattle.sdb_replay.specs.Keyed.{GivesKeys}
use Rattle.sdb_replay.specs.Running.{NotBegun}
use Rattle.sdb_serve.specs.Acts.{story_of}
use Rattle.sdb_serve.specs.Serving.{Served}
use Rattle.sdb_status.specs.declared.status.Status.{Status}
use Rattle.sdb_status.specs.declared.status.Status.TheVariants as status

-- the port wasn't bound
abbrev pub NotBound : Status → links.State → links.State → Type 0
NotBound found start now = (found ≡ status.LinkFault) × (IsTrue start.told → links.Stays start now)

-- the port was bound
pub record IsBound (port : ℕ) (start bound : links.State) : Type 0 where
  pub told : bound.told ≡ start.told
  pub last : bound.last ≡ start.last
  pub faults : start.faults ≤ bound.faults
  pub binds : IsTrue start.told → links.Binds port start bound

-- the port was bound, and then the server ran to its end
pub record Hosts (found : Status) (port turns : ℕ) (o : Opening) (faults : ℕ) (disk_now : disk.State) (start now : links.State) (first moments : Option (List ℕ)) : Type 0 where
  pub bound : links.State
  pub is_bound : IsBound port start bound
  pub core : View
  pub served : Served found turns o bound (record { moments = first; faults = faults }) core disk_now now moments

-- a crash leaves nothing that it might not have left before
abbrev pub LeavesNoMore : disk.State → disk.State → Type 0
LeavesNoMore disk_old disk_now = (t : ℕ) (c : disk.Files) → disk_now.left_since t c → disk_old.left_since t c

-- of a core that was just opened
abbrev pub Listens : Status → ℕ → ℕ → View → disk.State → disk.State → links.State → links.State → Option (List ℕ) → Option (List ℕ) → Type 0
Listens found port turns core disk_old disk_now start now first moments =
    (NotBound found start now × LeavesNoMore disk_old disk_now)
    ⊎ (IsTrue disk_old.told → (o : Opening) → StandsFor core disk_old o [] → core.line.out ≡ [] → Hosts found port turns o disk_old.faults disk_now start now first moments)

-- and whatever a crash leaves at any moment of the run, its opening included, is right after some step
pub record HostsSince (found : Status) (port turns : ℕ) (keys : List Key) (accounts : DomainEntries) (number : ℕ) (before disk_now : disk.State) (start now : links.State) (first moments : Option (List ℕ)) : Type 0 where
  pub moment : ℕ
  pub faults : ℕ
  pub later : before.faults ≤ faults
  pub hosts : Hosts found port turns (opening keys accounts number moment) faults disk_now start now first moments
  pub opened : before.moment ≤ moment
  pub during : disk.LeavesOnly before disk_now (RightSince None (opening keys accounts number moment) (story_of hosts.served.acts) [])

-- The keys were refused, or the store wasn't opened with them, and the links weren't touched. Or the port wasn't bound. Or the
-- server ran to its end, over the accounts for which the files stood; the faults that its story tells are no more than those that
-- the disk's count rose by since it was opened. Where it didn't run, whatever a crash leaves stands for what something stood for
-- that a crash might have left before.
abbrev pub Attends : Status → ℕ → ℕ → (keys_left keys_rest : Option (List ℕ)) → disk.State → disk.State → links.State → links.State → Option (List ℕ) → Option (List ℕ) → Type 0
Attends found port turns keys_left keys_rest before disk_now start now first moments =
    (NotBegun found keys_left keys_rest before × LeavesAsBefore before disk_now × (now ≡ start))
    ⊎ ((keys : List Key) × GivesKeys keys_left keys_rest keys
    × ((NotBound found start now × LeavesAsBefore before disk_now)
    ⊎ (IsTrue before.told → (accounts : DomainEntries) (number : ℕ) → EachStands before accounts number
    → HostsSince found port turns keys accounts number before disk_now start now first moments)))
