use Rattle.std.proofs.Common.{◌≡◌, ◌≤◌, length, reverse}
use Rattle.sdb_disk.specs.Crash.{lost}
use Rattle.sdb_disk.proofs.lost.lose.Given as goal

-- what is left to fill
abbrev pub invariant-calls : goal.invariant-calls
invariant-calls l = record {
  same : lost l.byte l.file (reverse l.rest) l.content.items ≡ lost l.byte l.file (reverse l.initial.rest) l.initial.content.items;
  no_longer : length l.rest ≤ length l.initial.rest;
}

abbrev pub decreases-calls : goal.decreases-calls
decreases-calls l = length l.rest
