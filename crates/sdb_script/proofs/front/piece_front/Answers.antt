use Rattle.std.proofs.Common.{Some, ap, sym, arith}
use Rattle.sdb_script.proofs.FrontLemmas.{piece_whole}
use Rattle.sdb_script.proofs.front.piece_front.Goals as goal

pub returns-clause-shown : goal.returns-clause-shown
returns-clause-shown c =
    ap Some (sym (piece_whole c.args.conn c.args.moment c.args.size c.args.at c.args.rest.now c.in_ok-bytes.bytes.bytes (omega arith) (omega arith) c.in_ok-bytes.ensures))
