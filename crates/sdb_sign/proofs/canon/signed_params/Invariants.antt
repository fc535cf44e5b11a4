use Rattle.std.proofs.Common.{◌≡◌, map, take}
use Rattle.std.specs.Map.Iter.{deref_pair}
use Rattle.sdb_sign.specs.Canon.{signed_params}
use Rattle.sdb_sign.proofs.canon.signed_params.Given as goal

abbrev pub invariant-loop-place : goal.invariant-loop-place
invariant-loop-place l = map deref_pair l.rising.entries ≡ signed_params (take l.place l.params)
