use Rattle.std.proofs.Common.{length, sym}
use Rattle.std.proofs.Math.Bool.{and-true}
use Rattle.std.proofs.lemmas.Bool.{le-leb}
use Rattle.std.proofs.lemmas.Str.{is_utf8-from_IsUtf8}
use Rattle.sdb_parse.proofs.names.is_attr.Goals as goal

pub returns-then-name-ge1 : goal.returns-then-name-ge1
returns-then-name-ge1 c =
    rw (le-leb 1 (length c.args.name.now) c.if-name-ge1.true, is_utf8-from_IsUtf8 c.args.name.now c.utf8.name) (sym (and-true _))
