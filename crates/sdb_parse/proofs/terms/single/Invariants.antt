use Rattle.std.proofs.Common.{◌≡◌, ◌++◌, false, drop}
use Rattle.sdb_parse.specs.Terms.{single}
use Rattle.sdb_parse.proofs.terms.single.Given as goal

abbrev pub invariant-loop-byte : goal.invariant-loop-byte
invariant-loop-byte l = l.bytes.items ++ single l.sign l.pending (drop l.byte-index l.inner) ≡ single l.sign false l.inner
