use Rattle.std.proofs.Common.{◌++◌, List, ℕ, sym, subst}
use Rattle.std.proofs.lemmas.Result.{on_ok_weaker}
use Rattle.sdb_cli.specs.Plain.{Answered}
use Rattle.sdb_cli.proofs.LongLemmas.{IsAnswered-alike}
use Rattle.sdb_cli.proofs.session.Session.answer_line.Goals as goal

pub returns-then-is_empty-clause-answer : goal.returns-then-is_empty-clause-answer
returns-then-is_empty-clause-answer c =
    let P : List ℕ → Type 0 = λ held. Answered c.args.self.now.number c.args.self.now.accounts (held ++ c.args.end.now) c.answer.new.accounts c.args.out.now.bytes c.answer.new.out.bytes in
    on_ok_weaker c.answer.result (λ answered. subst P (sym (c.is_empty.ensures.0 c.if-is_empty.true)) answered) c.answer.ensures

pub returns-clause-answer : goal.returns-clause-answer
returns-clause-answer c =
    on_ok_weaker c.answer_held.result
    (λ answered.
    (answered.0, IsAnswered-alike c.args.self.now.number c.args.self.now.accounts _ c.extend.new.self (c.args.self.now.held ++ c.args.end.now) answered.0 c.in_ok-extend.ensures.alike answered.1, answered.2))
    c.answer_held.ensures.answer
