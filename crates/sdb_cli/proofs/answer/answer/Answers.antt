use Rattle.std.proofs.Common.{◌++◌, inl, inr, refl, ◌∙◌, ap}
use Rattle.sdb_cli.specs.Plain.{answer, lacking}
use Rattle.sdb_cli.proofs.answer.answer.Goals as goal

pub returns-in-Ok : goal.returns-in-Ok
returns-in-Ok c =
    let said = answer c.args.number c.args.accounts.now c.args.line.now in
    (said, inl (c.in-Ok.ensures.accounts, refl), c.in-Ok.ensures.bytes ∙ ap (λ l. l ++ said) c.make_room.ensures.bytes)

pub returns-in-Err : goal.returns-in-Err
unfolding lacking
returns-in-Err c =
    let said = lacking c.args.number in
    (said, inr (c.in-Err.ensures.same_accounts, refl), c.refuse.ensures ∙ ap (λ l. l ++ said) (c.in-Err.ensures.same_bytes ∙ c.make_room.ensures.bytes))
