-- Which operations may add a pair.
use Rattle.std.specs.Prelude.{Bool, true, false}
use Rattle.sdb_pairs.specs.declared.op.Op.{Op}
use Rattle.sdb_pairs.specs.declared.op.Op.TheVariants.{AddPair, DropPair, DropName, DropAll}

-- the operation adds a pair
abbrev pub is_addition : Op → Bool
is_addition (AddPair p) = true
is_addition (DropPair p) = false
is_addition (DropName name) = false
is_addition DropAll = false
