use Rattle.sdb_words.proofs.TakenLemmas.{taken_with_port}
use Rattle.sdb_words.proofs.command.read_with_port.Goals as goal

pub once_taken-requires : goal.once_taken-requires
once_taken-requires c = taken_with_port c.args.word.now c.args.port.now c.args.turns.now c.named_with_port.result c.named_with_port.ensures
