use Rattle.sdb_respond.proofs.ReadLemmas as lemmas
use Rattle.sdb_respond.proofs.laws.reads_are_lawful.Goals as goal

pub returns : goal.returns
returns c = lemmas.reads_are_lawful
