use Rattle.std.proofs.Common.{sym}
use Rattle.sdb_keys.proofs.Words.{id_is_text, secret_is_text}
use Rattle.sdb_keys.proofs.line.words_of.Goals as goal

pub returns-then-is_secret-clause-text : goal.returns-then-is_secret-clause-text
returns-then-is_secret-clause-text c =
    (id_is_text _ (sym c.if-is_id.ensures), secret_is_text _ (sym c.if-is_secret.ensures))
