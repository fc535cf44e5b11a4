use Rattle.std.proofs.Common.{sym}
use Rattle.std.proofs.Math.Bool.{and-true}
use Rattle.std.proofs.lemmas.Str.{is_utf8-from_IsUtf8}
use Rattle.sdb_tables.proofs.kind.is_plain.Goals as goal

pub returns : goal.returns
returns c = rw (is_utf8-from_IsUtf8 c.args.text.now c.utf8.text) (sym (and-true _))
