use Rattle.sdb_parse.specs.Signs.{sign_of, words}
use Rattle.sdb_parse.proofs.sign.Sign.of.Goals as goal

pub returns : goal.returns
unfolding sign_of words
returns c = c.sign_in.ensures
