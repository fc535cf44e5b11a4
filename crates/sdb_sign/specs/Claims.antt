-- A claim of the program, as contracts see it.
use Rattle.sdb_sign.specs.declared.claim.Claim.{Claim}
use Rattle.sdb_sign.specs.Signing.{Claimed}

-- what contracts see of a claim
abbrev pub seen : Claim → Claimed
seen claim = record {
  key_id = claim.key_id.now;
  kind = claim.kind;
  moment = claim.moment.now;
  signature = claim.signature.now;
}
