use Rattle.std.proofs.Common.{rules}
use Rattle.sdb_io.proofs.LinksLemmas.{none_sent}
use Rattle.sdb_io.proofs.links.memory.MemoryLinksLinks.send.Goals as goal

pub returns-then-is_err-clause-err : goal.returns-then-is_err-clause-err
returns-then-is_err-clause-err c = λ told. none_sent c.args.conn c.args.bytes.now _ _ (search rules)
