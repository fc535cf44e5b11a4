use Rattle.std.proofs.Common.{◌≡◌, drop, map}
use Rattle.sdb_parse.specs.Signs.{seen, sign_in}
use Rattle.sdb_parse.proofs.sign.sign_in.Given as goal

abbrev pub invariant-loop-row : goal.invariant-loop-row
invariant-loop-row l = sign_in (map seen l.rows) l.piece ≡ sign_in (map seen (drop l.row-index l.rows)) l.piece
