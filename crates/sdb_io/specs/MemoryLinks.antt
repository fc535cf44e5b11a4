-- Connections in memory, as contracts see them.
use Rattle.std.specs.Prelude.{ℕ, true, List, [], Option, Some, None}
use Rattle.std.specs.Map.{lookup}
use Rattle.std.specs.BTreeMap.{is_at}
use Rattle.std.specs.Ordering.{nat_cmp}
use Rattle.sdb_base.specs.Buffer.{Buffer}
use Rattle.sdb_io.specs.Links.{State}
use Rattle.sdb_io.specs.Playback.{Played, stage_in}

-- what is known of them
pub record LinksState : Type 0 where
  pub port : Option ℕ
  pub played : Played
  -- the bytes sent on each connection on which any were sent
  pub sent : List (ℕ × Buffer)
  pub faults : ℕ
  -- the numbers of the calls that fail
  pub fails : List ℕ
  -- the number of the next call
  pub calls : ℕ

-- the bytes of a buffer that may be missing
abbrev pub bytes_of : Option Buffer → List ℕ
bytes_of None = []
bytes_of (Some buffer) = buffer.bytes

-- the bytes that were sent on a connection
abbrev pub sent_in : List (ℕ × Buffer) → ℕ → List ℕ
sent_in entries k = bytes_of (lookup (is_at (nat_cmp k)) entries)

-- what the trait says of them
abbrev pub state_of : LinksState → State
state_of links = record {
  told = true;
  port = links.port;
  to_come = links.played.to_come;
  sent = sent_in links.sent;
  stage = stage_in links.played.given;
  last = links.played.last;
  faults = links.faults;
}
