use Rattle.sdb_words.proofs.TakenLemmas.{taken_alone}
use Rattle.sdb_words.proofs.command.read_alone.Goals as goal

pub once_taken-requires : goal.once_taken-requires
once_taken-requires c = taken_alone c.args.word.now c.named_alone.result c.named_alone.ensures
