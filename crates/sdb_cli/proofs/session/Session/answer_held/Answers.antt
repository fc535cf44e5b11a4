use Rattle.std.proofs.Common.{◌++◌, [], ◌∷◌, List, ℕ, inl, sym, subst}
use Rattle.std.proofs.lemmas.Result.{on_ok_weaker}
use Rattle.sdb_tables.specs.declared.refusal.Refusal.TheVariants.{RequestTooLong}
use Rattle.sdb_reply.specs.Faults.{refusal_text}
use Rattle.sdb_cli.specs.Plain.{Answered, id_of}
use Rattle.sdb_cli.proofs.LongLemmas.{answer-long, after_line-long}
use Rattle.sdb_cli.proofs.session.Session.answer_held.Goals as goal

pub returns-in-None-clause-answer : goal.returns-in-None-clause-answer
returns-in-None-clause-answer c =
    on_ok_weaker c.refuse_long_line.result
    (λ appended. (
      refusal_text RequestTooLong (id_of c.args.self.now.number) ++ 10 ∷ [],
      inl (sym (after_line-long c.args.self.now.accounts c.args.self.now.held c.in-None.ensures), sym (answer-long c.args.self.now.number c.args.self.now.accounts c.args.self.now.held c.in-None.ensures)),
      appended,
    ))
    c.refuse_long_line.ensures

pub returns-in-Some-clause-answer : goal.returns-in-Some-clause-answer
returns-in-Some-clause-answer c =
    let P : List ℕ → Type 0 = λ line. Answered c.args.self.now.number c.args.self.now.accounts line c.answer.new.accounts c.args.out.now.bytes c.answer.new.out.bytes in
    on_ok_weaker c.answer.result (λ answered. subst P c.in-Some.ensures.0 answered) c.answer.ensures
