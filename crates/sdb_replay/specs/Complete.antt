-- When a run is done: the keys and the script are well formed and within their limits, and the files stand for accounts.
use Rattle.std.specs.Prelude.{◌≡◌, ℕ, ◌<◌, ◌≤◌, List, length, IsTrue, None, Some}
use Rattle.std.specs.declared.option.Option.{Option}
use Rattle.sdb_disk.specs.Disk.{State}
use Rattle.sdb_keys.specs.File.{AreRight, file_lines}
use Rattle.sdb_keys.specs.declared.keys.Key.{Key}
use Rattle.sdb_pairs.specs.Accounts.{DomainEntries}
use Rattle.sdb_script.specs.Events.{Event}
use Rattle.sdb_script.specs.Scripts.{IsScript}
use Rattle.sdb_replay.specs.Endings.{EachStands}
use Rattle.sdb_replay.specs.Keyed.{most_keys}
use Rattle.sdb_replay.specs.Records.{most_input}

-- what the sources have and what the files are is all that a run needs but memory
pub record IsWell (keys_left left : Option (List ℕ)) (s : State) : Type 0 where
  pub text : List ℕ
  pub keys : List Key
  pub text_is : keys_left ≡ Some text
  pub text_fits : length text ≤ most_keys
  pub right : AreRight (file_lines text) keys
  pub script : List ℕ
  pub events : List Event
  pub script_is : left ≡ Some script
  pub script_fits : length script < most_input
  pub is_script : IsScript script events None
  pub told : IsTrue s.told
  pub accounts : DomainEntries
  pub number : ℕ
  pub stands : EachStands s accounts number
