use Rattle.std.proofs.Common.{◌++◌, [], ◌∷◌, ◌∙◌, ap, append_assoc}
use Rattle.sdb_pairs.specs.Changes.{state}
use Rattle.sdb_answer.proofs.OutcomeLemmas.{lawful_lead_after}
use Rattle.sdb_cli.specs.Plain.{account}
use Rattle.sdb_cli.proofs.answer.execute.Goals as goal

pub returns-clause-accounts : goal.returns-clause-accounts
returns-clause-accounts c =
    c.in_ok-apply.ensures.ok
    ∙ ap (state c.args.accounts.now) c.in_ok-told.ensures.changes
    ∙ lawful_lead_after c.args.accounts.now account c.args.request.now c.apply.ensures.accounts c.requires.asked

pub returns-clause-bytes : goal.returns-clause-bytes
returns-clause-bytes c =
    let before = c.args.out.now.bytes in
    let body = c.as_slice.result.now in
    c.push-2.ensures.bytes
    ∙ ap (λ l. l ++ 10 ∷ []) (c.push.ensures.bytes ∙ ap (λ l. l ++ body) c.make_room.ensures.bytes)
    ∙ append_assoc before body (10 ∷ [])
    ∙ ap (λ b. before ++ (b ++ 10 ∷ [])) (c.as_slice.ensures ∙ c.in_ok-told.ensures.body)
