use Rattle.std.proofs.Common.{◌≤◌, ◌+◌, length, arith}
use Rattle.sdb_http.proofs.FeedLemmas.{Reads-length}
use Rattle.sdb_http.proofs.laws.replies_take_bytes.Goals as goal

pub returns-clause-held : goal.returns-clause-held
returns-clause-held c = Reads-length

pub returns-clause-all : goal.returns-clause-all
returns-clause-all c = λ bytes replies all.
    let few : length replies + length all.0 ≤ length bytes = Reads-length bytes replies all.0 all.1 all.2 in omega arith
