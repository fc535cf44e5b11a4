use Rattle.sdb_script.proofs.Spelling.{whole-read}
use Rattle.sdb_script.proofs.Spells.{spelled_read}
use Rattle.sdb_script.proofs.laws.records_are_spelled.Goals as goal

pub returns-clause-read_back : goal.returns-clause-read_back
returns-clause-read_back c = spelled_read

pub returns-clause-may_come : goal.returns-clause-may_come
returns-clause-may_come c = λ known bytes event size whole. (whole-read known bytes event size whole).may

pub returns-clause-spelled : goal.returns-clause-spelled
returns-clause-spelled c = λ known bytes event size whole. (whole-read known bytes event size whole).text
