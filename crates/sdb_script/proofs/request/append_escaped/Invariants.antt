use Rattle.std.proofs.Common.{◌≡◌, ◌++◌}
use Rattle.percent_encoding.specs.Iter.{encoded_text}
use Rattle.sdb_script.proofs.request.append_escaped.Given as goal

abbrev pub invariant-loop-piece : goal.invariant-loop-piece
invariant-loop-piece l =
    l.text.bytes ++ encoded_text l.piece-iterator ≡ l.initial.text.bytes ++ encoded_text l.initial.piece-iterator
