use Rattle.std.proofs.Common.{◌≡◌, ◌&&◌, false, take}
use Rattle.std.specs.List.{list_any}
use Rattle.std.specs.Str.{bytes_eq}
use Rattle.sdb_pairs.specs.Pairs.{is_named}
use Rattle.sdb_pairs.proofs.few.few_have.Given as goal

abbrev pub invariant-loop-pair : goal.invariant-loop-pair
invariant-loop-pair l = list_any (λ p. bytes_eq p.value l.value && is_named l.name p) (take l.pair-index l.pairs) ≡ false
