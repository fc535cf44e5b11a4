use Rattle.std.proofs.Common.{length}
use Rattle.sdb_parse.specs.declared.sign.Sign.TheVariants as sign
use Rattle.sdb_parse.specs.Reading.{attr_at}
use Rattle.sdb_parse.proofs.ListedLemmas.{Going}
use Rattle.sdb_parse.proofs.names.read_attrs.Given as goal

abbrev pub invariant-more : goal.invariant-more
invariant-more l = Going sign.Comma attr_at l.fn.cursor l.cursor l.attrs

abbrev pub decreases-more : goal.decreases-more
decreases-more l = length l.cursor
