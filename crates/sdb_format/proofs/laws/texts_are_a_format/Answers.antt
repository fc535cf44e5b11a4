use Rattle.sdb_format.proofs.LetterLaws.{text_format}
use Rattle.sdb_format.proofs.laws.texts_are_a_format.Goals as goal

pub returns : goal.returns
returns c = text_format
