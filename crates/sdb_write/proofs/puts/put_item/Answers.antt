use Rattle.std.proofs.Common.{◌≡◌, ◌⊎◌, Some, [], sym, ◌∙◌, ap, length, map, unwrap_or, subst}
use Rattle.std.specs.Option.{option_copied}
use Rattle.std.proofs.lemmas.Result.{err_from_is_err_and}
use Rattle.sdb_pairs.specs.declared.change.Change.TheVariants.{Edit}
use Rattle.sdb_tables.specs.declared.refusal.Refusal.TheVariants.{OutOfMemory}
use Rattle.sdb_write.specs.Changes.{edit_of, put_ops}
use Rattle.sdb_write.specs.ItemWrites.{left_of, put_write, put_of}
use Rattle.sdb_write.specs.Limits.{item_above}
use Rattle.sdb_write.specs.Totals.{exchanged}
use Rattle.sdb_write.proofs.DecisionLemmas.{unwrapped, put_left, unless_refused, unless_done}
use Rattle.sdb_write.proofs.puts.put_item.Goals as goal

pub returns-in_err-check_item : goal.returns-in_err-check_item
returns-in_err-check_item c =
    let p = err_from_is_err_and c.from_residual-in_err-check_item.result c.from_residual-in_err-check_item.ensures.1 in
    let refusal = c.in_err-check_item.field-0.0 in
    let item = c.args.item.now in
    let same = ap (λ b. b.now) c.unwrap_or-old.ensures ∙ unwrapped c.args.old _ [] c.new-none.ensures in
    let made = c.in_ok-ops.ensures ∙ ap (λ pairs. put_ops (map put_of pairs)) c.as_slice.ensures in
    let left = c.pairs-left.ensures.same ∙ put_left item c.unwrap_or-old.result.now c.in_ok-new.new c.in_ok-ops.ops c.pairs-was.ensures.rising made c.in_ok-new.ensures ∙ ap (left_of (put_write item)) same in
    rw (p.1, p.2) (unless_refused _ _ _ (subst (λ pairs. (refusal ≡ OutOfMemory) ⊎ (item_above (length pairs) ≡ Some refusal)) left c.in_err-check_item.ensures))

pub returns : goal.returns
returns c =
    let item = c.args.item.now in
    let same = ap (λ b. b.now) c.unwrap_or-old.ensures ∙ unwrapped c.args.old _ [] c.new-none.ensures in
    let made = c.in_ok-ops.ensures ∙ ap (λ pairs. put_ops (map put_of pairs)) c.as_slice.ensures in
    let left = c.pairs-left.ensures.same ∙ put_left item c.unwrap_or-old.result.now c.in_ok-new.new c.in_ok-ops.ops c.pairs-was.ensures.rising made c.in_ok-new.ensures ∙ ap (left_of (put_write item)) same in
    let was = c.pairs-was.ensures.same ∙ same in
    let totals : c.in_ok-totals.totals ≡ exchanged c.args.totals item.name (unwrap_or (option_copied c.args.old) []) (left_of (put_write item) (unwrap_or (option_copied c.args.old) [])) =
    c.in_ok-totals.ensures ∙ (λ i. exchanged c.args.totals item.name (was i) (left i)) in
    let change : c.in_ok-edit.field-0 ≡ edit_of c.args.account c.args.domain.now (put_write item) = c.in_ok-edit.ensures ∙ ap (Edit c.args.account c.args.domain.now item.name) made in
    unless_done _ _ _ (ap (λ pairs. item_above (length pairs)) (sym left) ∙ c.in_ok-check_item.ensures) (λ i. (change i, totals i))
