use Rattle.sdb_script.specs.Connections.{none_opened}
use Rattle.sdb_script.proofs.OneReading.{one_reading, one_at_least}
use Rattle.sdb_script.proofs.laws.one_reading.Goals as goal

pub returns-clause-events : goal.returns-clause-events
returns-clause-events c = λ known at bytes events others wrong other first second. (one_reading known at bytes events others wrong other first second).0

pub returns-clause-wrong : goal.returns-clause-wrong
returns-clause-wrong c = λ known at bytes events others wrong other first second. (one_reading known at bytes events others wrong other first second).1

pub returns-clause-one : goal.returns-clause-one
returns-clause-one c = λ bytes. let one = one_at_least none_opened 0 bytes in (one.events, one.wrong, one.tells)
