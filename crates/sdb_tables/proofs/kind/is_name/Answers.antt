use Rattle.std.proofs.Common.{length, sym}
use Rattle.std.proofs.Math.Bool.{and-true}
use Rattle.std.proofs.lemmas.Bool.{le-leb}
use Rattle.std.proofs.lemmas.Str.{is_utf8-from_IsUtf8}
use Rattle.sdb_tables.proofs.kind.is_name.Goals as goal

pub returns-then-text-ge1 : goal.returns-then-text-ge1
returns-then-text-ge1 c =
    rw (le-leb 1 (length c.args.text.now) c.if-text-ge1.true, is_utf8-from_IsUtf8 c.args.text.now c.utf8.text) (sym (and-true _))
