use Rattle.sdb_parse.proofs.PrintedLaws as laws
use Rattle.sdb_parse.proofs.laws.printed_spells.Goals as goal

pub returns : goal.returns
returns c = laws.printed_spells
