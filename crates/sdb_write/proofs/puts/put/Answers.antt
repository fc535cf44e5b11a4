use Rattle.std.proofs.Common.{◌≡◌, Some, option_map, sym, ◌∙◌, ap, unwrap_or, []}
use Rattle.std.specs.Option.{option_copied}
use Rattle.std.proofs.lemmas.Result.{err_from_is_err_and}
use Rattle.sdb_pairs.specs.Accounts.{items_of, pairs_at}
use Rattle.sdb_write.proofs.DecisionLemmas.{put_item_refused, put_totals_refused, put_decided}
use Rattle.sdb_write.proofs.puts.put.Goals as goal

pub returns-in_err-change-clause-answer : goal.returns-in_err-change-clause-answer
returns-in_err-change-clause-answer g c =
    let p = err_from_is_err_and c.from_residual-in_err-change.result c.from_residual-in_err-change.ensures.1 in
    let accounts = c.args.accounts.now in
    let domain = c.in_ok-domain.domain.now in
    let item = c.args.item.now in
    let there : items_of accounts c.args.account c.args.name.now ≡ Some domain = sym c.domain.ensures.found ∙ ap (option_map (λ d. d.now)) c.in_ok-domain.ensures.ok_part in
    let was : unwrap_or (option_copied c.item-old.result) [] ≡ pairs_at domain item.name = ap (λ o. unwrap_or o []) c.item-old.ensures.found in
    rw (p.1, p.2) (put_item_refused accounts c.args.account c.args.name.now domain item (option_copied c.args.expect) _ _ c.domain.ensures.accounts there was c.of.ensures c.in_ok-judge_item.ensures _ c.in_err-change.ensures)

pub returns-in_err-check-clause-answer : goal.returns-in_err-check-clause-answer
returns-in_err-check-clause-answer g c =
    let p = err_from_is_err_and c.from_residual-in_err-check.result c.from_residual-in_err-check.ensures.1 in
    let accounts = c.args.accounts.now in
    let domain = c.in_ok-domain.domain.now in
    let item = c.args.item.now in
    let there : items_of accounts c.args.account c.args.name.now ≡ Some domain = sym c.domain.ensures.found ∙ ap (option_map (λ d. d.now)) c.in_ok-domain.ensures.ok_part in
    let was : unwrap_or (option_copied c.item-old.result) [] ≡ pairs_at domain item.name = ap (λ o. unwrap_or o []) c.item-old.ensures.found in
    rw (p.1, p.2) (put_totals_refused accounts c.args.account c.args.name.now domain item (option_copied c.args.expect) _ _ c.domain.ensures.accounts there was c.of.ensures c.in_ok-judge_item.ensures _ _ _ c.in_ok-change.ensures c.in_err-check.ensures)

pub returns-clause-answer : goal.returns-clause-answer
returns-clause-answer g c =
    let accounts = c.args.accounts.now in
    let domain = c.in_ok-domain.domain.now in
    let item = c.args.item.now in
    let there : items_of accounts c.args.account c.args.name.now ≡ Some domain = sym c.domain.ensures.found ∙ ap (option_map (λ d. d.now)) c.in_ok-domain.ensures.ok_part in
    let was : unwrap_or (option_copied c.item-old.result) [] ≡ pairs_at domain item.name = ap (λ o. unwrap_or o []) c.item-old.ensures.found in
    put_decided accounts c.args.account c.args.name.now domain item (option_copied c.args.expect) _ _ c.domain.ensures.accounts there was c.of.ensures c.in_ok-judge_item.ensures _ _ _ c.in_ok-change.ensures c.in_ok-check.ensures c.in_ok-one_change.ensures
