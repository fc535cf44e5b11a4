use Rattle.std.proofs.Common.{◌+◌, ◌≤◌, Ok, Err, length, arith, subst, zero-add}
use Rattle.sdb_lex.specs.declared.fault.LexFault.TheVariants.{BadByte, Unclosed}
use Rattle.sdb_lex.specs.Tokens.{AreSpans, Cuts}
use Rattle.sdb_lex.proofs.CutLemmas.{past_a_blank, past_a_token, at_bad_byte, at_open_sign, at_nothing, ended, piece_within, bad_within, spans_rise}
use Rattle.sdb_lex.proofs.lexer.lex.Goals as goal
use Rattle.sdb_lex.proofs.lexer.lex.Goals.{else-cut-test, then-cut-test+in-Nothing}

pub cut-preserved-in-Blank : goal.cut-preserved-in-Blank
cut-preserved-in-Blank c = past_a_blank c.as_bytes-bytes.result.now c.cut.at c.cut.tokens c.cut.invariant c.split_at.result.1.now c.split_at.ensures.back c.in-Blank.ensures (omega arith)

pub overflow_add-upto : goal.overflow_add-upto
overflow_add-upto c =
    let len = piece_within c.split_at.result.1.now c.in-Piece.kind c.in-Piece.len c.in-Piece.ensures in
    omega (arith, len.1, c.split_at.ensures.back_len)

pub cut-preserved : goal.cut-preserved
cut-preserved c =
    let len = piece_within c.split_at.result.1.now c.in-Piece.kind c.in-Piece.len c.in-Piece.ensures in
    let within : c.cut.at + c.in-Piece.len ≤ length c.as_bytes-bytes.result.now = omega (arith, len.1, c.split_at.ensures.back_len) in
    rw c.in_ok-push-in-Piece.ensures.ok
    (past_a_token c.as_bytes-bytes.result.now c.cut.at c.cut.tokens c.cut.invariant c.split_at.result.1.now c.split_at.ensures.back c.in-Piece.kind c.in-Piece.len c.in-Piece.ensures within)

pub overflow_add-result : goal.overflow_add-result
overflow_add-result c =
    let on = bad_within c.split_at.result.1.now c.in-Bad.on c.in-Bad.ensures in
    omega (arith, on, c.split_at.ensures.back_len)

pub returns-in-Bad-clause-cut : goal.returns-in-Bad-clause-cut
returns-in-Bad-clause-cut c = λ _.
    subst (λ l. Cuts 0 l (Err (BadByte (c.cut.at + c.in-Bad.on)))) (cc (c.as_bytes-bytes.ensures.value, c.as_str.ensures.value))
    (at_bad_byte c.as_bytes-bytes.result.now c.cut.at c.cut.tokens c.cut.invariant c.split_at.result.1.now c.split_at.ensures.back c.in-Bad.on c.in-Bad.ensures)

pub returns-in-Unclosed-clause-cut : goal.returns-in-Unclosed-clause-cut
returns-in-Unclosed-clause-cut c = λ _.
    subst (λ l. Cuts 0 l (Err (Unclosed c.cut.at))) (cc (c.as_bytes-bytes.ensures.value, c.as_str.ensures.value))
    (at_open_sign c.as_bytes-bytes.result.now c.cut.at c.cut.tokens c.cut.invariant c.split_at.result.1.now c.split_at.ensures.back c.in-Unclosed.ensures)

pub returns : goal.returns
returns c =
    let cuts : Cuts 0 c.args.text.now (Ok c.cut.tokens) =
    subst (λ l. Cuts 0 l (Ok c.cut.tokens)) (cc (c.as_bytes-bytes.ensures.value, c.as_str.ensures.value))
    (elim c.cut-test.branch [
      | else-cut-test w ↦ ended c.as_bytes-bytes.result.now c.cut.at c.cut.tokens c.cut.invariant (omega arith)
      | then-cut-test+in-Nothing w ↦ at_nothing c.as_bytes-bytes.result.now c.cut.at c.cut.tokens c.cut.invariant w.split_at.result.1.now w.split_at.ensures.back w.in-Nothing.ensures
    ]) in
    record { cut = λ _. cuts; rising = subst (λ m. AreSpans 0 m c.cut.tokens) (zero-add (length c.args.text.now)) (spans_rise 0 c.args.text.now (Ok c.cut.tokens) cuts) }
