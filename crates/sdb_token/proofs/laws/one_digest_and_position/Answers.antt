use Rattle.sdb_token.proofs.TokenLaws.{one_digest_and_position}
use Rattle.sdb_token.proofs.laws.one_digest_and_position.Goals as goal

pub returns : goal.returns
returns c = one_digest_and_position
