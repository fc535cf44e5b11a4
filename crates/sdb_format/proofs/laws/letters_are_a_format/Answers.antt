use Rattle.sdb_format.proofs.LetterLaws.{letters_format}
use Rattle.sdb_format.proofs.laws.letters_are_a_format.Goals as goal

pub returns : goal.returns
returns c = letters_format
