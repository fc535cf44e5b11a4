use Rattle.sdb_token.proofs.TokenLaws.{tokens_are_read, only_tokens_are_read}
use Rattle.sdb_token.proofs.laws.tokens_are_read.Goals as goal

pub returns-clause-all : goal.returns-clause-all
returns-clause-all c = tokens_are_read

pub returns-clause-only : goal.returns-clause-only
returns-clause-only c = only_tokens_are_read
