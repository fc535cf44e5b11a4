use Rattle.std.proofs.Common.{◌≡◌, ◌+◌, ◌<◌, [], ◌∷◌, List, ap, subst, unwrap_or, map, drop, length, arith, drop_of_length-le}
use Rattle.std.specs.Option.{option_copied}
use Rattle.std.proofs.lemmas.Result.{err_from_is_err_and}
use Rattle.sdb_pairs.specs.Accounts.{pairs_at}
use Rattle.sdb_write.specs.ItemWrites.{ItemWrite, put_write}
use Rattle.sdb_write.proofs.BatchLemmas.{Walked, walked_none, walked_more, walked_refused, walked_all, rest_at}
use Rattle.sdb_write.proofs.puts.put_items.Goals as goal

pub loop-item-init : goal.loop-item-init
loop-item-init g c = (walked_none c.args.account c.args.name.now c.args.domain.now (map put_write c.args.items.now) _ _ c.requires c.new-changes.ensures c.of-totals.ensures, omega arith)

pub loop-item-preserved : goal.loop-item-preserved
loop-item-preserved g c =
    let items = c.args.items.now in
    let item = c.item-item.result in
    let i = c.loop-item.item-index in
    let all = map put_write items in
    let rest : map put_write (drop i items) ≡ put_write item ∷ map put_write (drop (i + 1) items) = rest_at items i item c.loop-item-test.true c.item-item.is in
    let was : unwrap_or (option_copied c.item-old.result) [] ≡ pairs_at c.args.domain.now item.name = ap (λ o. unwrap_or o []) c.item-old.ensures.found in
    let so_far = subst (λ (ws : List ItemWrite). Walked c.args.account c.args.name.now c.args.domain.now all ws c.loop-item.changes c.loop-item.totals) rest c.loop-item.invariant.0 in (
      walked_more c.args.account c.args.name.now c.args.domain.now all (put_write item) (map put_write (drop (i + 1) items)) _ _ _ _ _ _ so_far c.item-old.ensures.in_order was c.in_ok-change.ensures c.in_ok-push.ensures.ok,
      omega (arith, c.loop-item.invariant.1, c.item-old.ensures.ticks),
    )

pub returns-in_err-change-clause-answer : goal.returns-in_err-change-clause-answer
returns-in_err-change-clause-answer g c =
    let p = err_from_is_err_and c.from_residual.result c.from_residual.ensures.1 in
    let items = c.args.items.now in
    let item = c.item-item.result in
    let i = c.loop-item.item-index in
    let all = map put_write items in
    let rest : map put_write (drop i items) ≡ put_write item ∷ map put_write (drop (i + 1) items) = rest_at items i item c.loop-item-test.true c.item-item.is in
    let was : unwrap_or (option_copied c.item-old.result) [] ≡ pairs_at c.args.domain.now item.name = ap (λ o. unwrap_or o []) c.item-old.ensures.found in
    let so_far = subst (λ (ws : List ItemWrite). Walked c.args.account c.args.name.now c.args.domain.now all ws c.loop-item.changes c.loop-item.totals) rest c.loop-item.invariant.0 in
    rw (p.1, p.2) (walked_refused c.args.account c.args.name.now c.args.domain.now all (put_write item) (map put_write (drop (i + 1) items)) _ _ _ _ so_far was c.in_err-change.ensures)

pub returns-in_err-change-clause-looks : goal.returns-in_err-change-clause-looks
returns-in_err-change-clause-looks g c =
    let inside : c.loop-item.item-index < length c.args.items.now = c.loop-item-test.true in
    omega (arith, c.loop-item.invariant.1, c.item-old.ensures.ticks, inside)

pub returns-clause-answer : goal.returns-clause-answer
returns-clause-answer g c =
    let items = c.args.items.now in
    let all = map put_write items in
    let none : map put_write (drop c.loop-item.item-index items) ≡ [] = ap (map put_write) (drop_of_length-le items (omega arith)) in
    walked_all c.args.account c.args.name.now c.args.domain.now all _ _ (subst (λ (ws : List ItemWrite). Walked c.args.account c.args.name.now c.args.domain.now all ws c.loop-item.changes c.loop-item.totals) none c.loop-item.invariant.0)
