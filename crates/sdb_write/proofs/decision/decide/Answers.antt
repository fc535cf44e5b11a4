use Rattle.std.proofs.Common.{sym, subst, arith}
use Rattle.sdb_pairs.specs.Changes.{state}
use Rattle.sdb_pairs.specs.Lawful.{IsAccount, AreLawfulAccounts, AreLawfulChanges}
use Rattle.sdb_write.proofs.LawfulLemmas.{lawful-once, changes_lawful}
use Rattle.sdb_write.proofs.OnlyLemmas.{only_refusals, of_decided}
use Rattle.sdb_write.proofs.StaysLemmas.{writes_stay_lawful}
use Rattle.sdb_write.proofs.WriteLemmas.{writes_are_changes}
use Rattle.sdb_write.proofs.decision.decide.Goals as goal

pub decide_counted-requires-clause-once : goal.decide_counted-requires-clause-once
decide_counted-requires-clause-once c = lawful-once c.args.request.now c.requires.asked

pub returns-clause-only : goal.returns-clause-only
returns-clause-only c = only_refusals c.args.accounts.now c.args.account c.args.request.now _ c.requires.write c.decide_counted.ensures.answer

pub returns-clause-lawful : goal.returns-clause-lawful
returns-clause-lawful c =
    let account : IsAccount c.args.account = record { least = grind (arith, c.well_formed); most = grind (arith, c.well_formed) } in
    of_decided c.args.accounts.now c.args.account c.args.request.now AreLawfulChanges _ c.decide_counted.ensures.answer (λ new given. changes_lawful c.args.account c.args.request.now account c.requires.write c.requires.asked)

pub returns-clause-stays : goal.returns-clause-stays
returns-clause-stays c lawful =
    let accounts = c.args.accounts.now in
    let request = c.args.request.now in
    let account : IsAccount c.args.account = record { least = grind (arith, c.well_formed); most = grind (arith, c.well_formed) } in
    of_decided accounts c.args.account request (λ changes. AreLawfulAccounts (state accounts changes)) _ c.decide_counted.ensures.answer
    (λ new given. subst AreLawfulAccounts (sym (writes_are_changes accounts new c.args.account request c.requires.write (lawful-once request c.requires.asked) lawful.rising given))
    (writes_stay_lawful accounts new c.args.account request account c.requires.write c.requires.asked lawful given))
