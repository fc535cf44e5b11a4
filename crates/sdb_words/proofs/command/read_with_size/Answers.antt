use Rattle.sdb_words.proofs.TakenLemmas.{taken_with_size}
use Rattle.sdb_words.proofs.command.read_with_size.Goals as goal

pub once_taken-requires : goal.once_taken-requires
once_taken-requires c = taken_with_size c.args.word.now c.args.size.now c.named_with_size.result c.named_with_size.ensures
