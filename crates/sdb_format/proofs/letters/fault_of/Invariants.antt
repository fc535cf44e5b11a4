use Rattle.std.proofs.Common.{◌≡◌, ◌+◌, ◌≤◌, drop, Err}
use Rattle.sdb_format.specs.declared.fault.FormatFault.{FormatFault}
use Rattle.sdb_format.specs.Letters.{letters_at, letters_from}
use Rattle.sdb_format.proofs.letters.fault_of.Given as goal

abbrev pub invariant-loop-byte : goal.invariant-loop-byte
invariant-loop-byte l = record {
  size : l.left + l.byte-index ≡ l.count;
  fits : l.place.left ≤ l.left;
  same : (fault : FormatFault) → letters_from l.place l.left (drop l.byte-index l.bytes) ≡ Err fault → letters_at l.count l.bytes ≡ Err fault;
}
