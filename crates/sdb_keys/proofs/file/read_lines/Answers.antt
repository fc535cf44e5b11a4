use Rattle.std.proofs.Common.{◌+◌, length, ap, sym, ◌∙◌, subst, arith}
use Rattle.std.proofs.lemmas.Result.{err_from_is_err_and}
use Rattle.sdb_keys.specs.Reading.{with_lines, IsFaultOf}
use Rattle.sdb_keys.proofs.Whole.{onward, stopped, ended}
use Rattle.sdb_keys.proofs.file.read_lines.Goals as goal

pub loop-line-preserved : goal.loop-line-preserved
loop-line-preserved c =
    let number = c.loop-line.number + 1 in
    let keys = c.loop-line.keys in
    let step = c.in-Some.ensures.steps in
    let split = c.loop-line.invariant.same ∙ ap (λ lines. with_lines number keys lines) step in
    let shorter = ap length step in
    record {
      same = split ∙ onward number keys c.read_line.new.keys c.in-Some.line.now c.next.new.self c.in_ok-read_line.ensures;
      small = omega (arith, c.loop-line.invariant.small, shorter);
    }

pub returns-in_err-read_line : goal.returns-in_err-read_line
returns-in_err-read_line c =
    let number = c.loop-line.number + 1 in
    let keys = c.loop-line.keys in
    let split = c.loop-line.invariant.same ∙ ap (λ lines. with_lines number keys lines) c.in-Some.ensures.steps in
    let fault = c.in_err-read_line.field-0.0 in
    let stops = stopped number keys c.in-Some.line.now c.next.new.self fault c.in_err-read_line.ensures in
    let p = err_from_is_err_and c.from_residual.result c.from_residual.ensures.1 in
    rw (p.1, p.2) (subst (λ answer. IsFaultOf answer fault) (sym split) stops)

pub returns : goal.returns
returns c =
    let number = c.loop-line.number + 1 in
    c.loop-line.invariant.same
    ∙ ap (λ lines. with_lines number c.loop-line.keys lines) c.in-None.ensures.steps.0
    ∙ ended number c.loop-line.keys
