use Rattle.std.proofs.Common.{◌+◌, List, ℕ, sym, subst, refl}
use Rattle.std.proofs.lemmas.List.{take_rest}
use Rattle.sdb_cli.specs.Fed.{Fed}
use Rattle.sdb_cli.specs.Standing.{standing}
use Rattle.sdb_cli.proofs.LinesLemmas.{Fed-line, Fed-none}
use Rattle.sdb_cli.proofs.LongLemmas.{Fed-held}
use Rattle.sdb_cli.proofs.session.Session.feed.Goals as goal

pub lines-init : goal.lines-init
lines-init c = Fed-none (standing c.args.self.now) c.args.out.now.bytes c.args.piece.now c.requires.held

pub lines-preserved : goal.lines-preserved
lines-preserved c =
    let P : List ℕ → Type 0 = λ rest. Fed (standing c.args.self.now) (standing c.end_line.new.self) c.args.out.now.bytes c.end_line.new.out.bytes c.args.piece.now rest in
    subst P (sym (take_rest c.lines.rest.now (c.in-Some.end + 1)))
    (Fed-line (standing c.args.self.now) (standing c.lines.self) (standing c.end_line.new.self) c.args.out.now.bytes c.lines.out.bytes c.end_line.new.out.bytes c.args.piece.now c.lines.rest.now _ c.in-Some.end
    c.lines.invariant c.in-Some.ensures.0 c.in-Some.ensures.1 c.in-Some.ensures.2 refl c.in_ok-end_line.ensures.answer c.in_ok-end_line.ensures.number c.in_ok-end_line.ensures.held)

pub returns : goal.returns
returns c =
    let fed = c.lines.invariant in
    Fed-held (standing c.args.self.now) (standing c.lines.self) _ c.args.out.now.bytes c.lines.out.bytes c.args.piece.now c.lines.rest.now fed c.in_default.ensures refl refl
    c.in_ok-extend.ensures.alike (c.in_ok-extend.ensures.one_line fed.held c.in_default.ensures)
