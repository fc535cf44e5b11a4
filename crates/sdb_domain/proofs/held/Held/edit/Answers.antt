use Rattle.std.proofs.Common.{◌≡◌, ◌∙◌, refl, sym, ap, subst, unwrap_or, not, List, Option, Some, None, Bor}
use Rattle.std.specs.Option.{option_copied}
use Rattle.sdb_base.specs.Texts.{text_cmp}
use Rattle.sdb_base.specs.Entries.{found}
use Rattle.sdb_pairs.specs.declared.pair.Pair.{Pair}
use Rattle.sdb_pairs.specs.Accounts.{pairs_at}
use Rattle.sdb_pairs.specs.Changes.{edited}
use Rattle.sdb_pairs.specs.Pairs.{merged}
use Rattle.sdb_domain.specs.declared.held.RowWas.{RowWas}
use Rattle.sdb_domain.specs.Held.{Kept, items_kept}
use Rattle.sdb_domain.specs.Undo.{ChangesOnly, HasRoom, row_back}
use Rattle.sdb_domain.proofs.RowLemmas.{RowEdited, counted_out, row_left, row_edited}
use Rattle.sdb_domain.proofs.WholeLemmas.{whole_edited, items_edited, edit_back, edit_only}
use Rattle.sdb_domain.proofs.held.Held.edit.Goals as goal

lent : (o : Option (Bor (List Pair))) (d : Bor (List Pair)) → (unwrap_or o d).now ≡ unwrap_or (option_copied o) d.now
lent None d = refl
lent (Some b) d = refl

pub recount-requires-clause-counted : goal.recount-requires-clause-counted
recount-requires-clause-counted c =
    let kept : Kept = record { rows = c.self.inside.rows; names = c.self.inside.names; sums = c.self.inside.sums } in
    let name = c.args.name.now in
    let ops = c.args.ops.now in
    let old : c.unwrap_or-old.result.now ≡ pairs_at kept.rows name =
    ap (λ b. b.now) c.unwrap_or-old.ensures ∙ lent c.get.result _ ∙ ap (λ o. unwrap_or o c.new-none.result) c.get.ensures.value ∙ ap (unwrap_or (found text_cmp kept.rows name)) c.new-none.ensures in
    counted_out kept name ops c.self.invariant c.unwrap_or-old.result.now c.in_ok-out.out c.in_ok-put.put old c.in_ok-out.ensures c.pairs-7.result.now c.pairs.ensures.rising c.pairs-7.ensures.same

pub invariant_of-self-in-Ok : goal.invariant_of-self-in-Ok
invariant_of-self-in-Ok c =
    let kept : Kept = record { rows = c.self.inside.rows; names = c.self.inside.names; sums = c.self.inside.sums } in
    let name = c.args.name.now in
    let ops = c.args.ops.now in
    let old : c.unwrap_or-old.result.now ≡ pairs_at kept.rows name =
    ap (λ b. b.now) c.unwrap_or-old.ensures ∙ lent c.get.result _ ∙ ap (λ o. unwrap_or o c.new-none.result) c.get.ensures.value ∙ ap (unwrap_or (found text_cmp kept.rows name)) c.new-none.ensures in
    let edit : RowEdited kept name ops c.exchange.new.rows c.recount.new.self.counts c.in_ok-sums.sums c.in-Ok.exchange =
    row_edited kept name ops c.self.invariant c.unwrap_or-old.result.now c.in_ok-out.out c.in_ok-put.put old c.in_ok-out.ensures c.in_ok-put.ensures c.pairs.ensures.rising
    c.pairs.result.now c.pairs-2.result.now c.pairs-3.result.now c.pairs-7.result.now c.pairs-8.result.now c.pairs.ensures.same c.pairs-2.ensures.same c.pairs-3.ensures.same c.pairs-7.ensures.same c.pairs-8.ensures.same
    c.exchange.new.rows c.recount.new.self.counts c.in_ok-sums.sums c.in-Ok.exchange c.in_ok-names.ensures.ok c.in_ok-sums.ensures c.in-Ok.ensures.ok in
    let new = merged (pairs_at kept.rows name) ops in
    whole_edited kept name new c.exchange.new.rows c.recount.new.self c.in_ok-sums.sums c.self.invariant edit.are edit.rises edit.recounts c.in_ok-names.ensures.tallied edit.sums_are

pub returns-in-Ok-clause-ok : goal.returns-in-Ok-clause-ok
returns-in-Ok-clause-ok c =
    let kept : Kept = record { rows = c.self.inside.rows; names = c.self.inside.names; sums = c.self.inside.sums } in
    let name = c.args.name.now in
    let ops = c.args.ops.now in
    let old : c.unwrap_or-old.result.now ≡ pairs_at kept.rows name =
    ap (λ b. b.now) c.unwrap_or-old.ensures ∙ lent c.get.result _ ∙ ap (λ o. unwrap_or o c.new-none.result) c.get.ensures.value ∙ ap (unwrap_or (found text_cmp kept.rows name)) c.new-none.ensures in
    let edit : RowEdited kept name ops c.exchange.new.rows c.recount.new.self.counts c.in_ok-sums.sums c.in-Ok.exchange =
    row_edited kept name ops c.self.invariant c.unwrap_or-old.result.now c.in_ok-out.out c.in_ok-put.put old c.in_ok-out.ensures c.in_ok-put.ensures c.pairs.ensures.rising
    c.pairs.result.now c.pairs-2.result.now c.pairs-3.result.now c.pairs-7.result.now c.pairs-8.result.now c.pairs.ensures.same c.pairs-2.ensures.same c.pairs-3.ensures.same c.pairs-7.ensures.same c.pairs-8.ensures.same
    c.exchange.new.rows c.recount.new.self.counts c.in_ok-sums.sums c.in-Ok.exchange c.in_ok-names.ensures.ok c.in_ok-sums.ensures c.in-Ok.ensures.ok in
    let new = merged (pairs_at kept.rows name) ops in
    items_edited kept name new c.exchange.new.rows c.recount.new.self c.in_ok-sums.sums c.self.invariant edit.are edit.rises edit.recounts c.in_ok-names.ensures.tallied edit.sums_are ops refl
    ∙ ap (λ (k : Kept). edited (items_kept k) name ops) c.self.view_is

pub returns-in-Ok-clause-back : goal.returns-in-Ok-clause-back
returns-in-Ok-clause-back c =
    let kept : Kept = record { rows = c.self.inside.rows; names = c.self.inside.names; sums = c.self.inside.sums } in
    let name = c.args.name.now in
    let ops = c.args.ops.now in
    let old : c.unwrap_or-old.result.now ≡ pairs_at kept.rows name =
    ap (λ b. b.now) c.unwrap_or-old.ensures ∙ lent c.get.result _ ∙ ap (λ o. unwrap_or o c.new-none.result) c.get.ensures.value ∙ ap (unwrap_or (found text_cmp kept.rows name)) c.new-none.ensures in
    let edit : RowEdited kept name ops c.exchange.new.rows c.recount.new.self.counts c.in_ok-sums.sums c.in-Ok.exchange =
    row_edited kept name ops c.self.invariant c.unwrap_or-old.result.now c.in_ok-out.out c.in_ok-put.put old c.in_ok-out.ensures c.in_ok-put.ensures c.pairs.ensures.rising
    c.pairs.result.now c.pairs-2.result.now c.pairs-3.result.now c.pairs-7.result.now c.pairs-8.result.now c.pairs.ensures.same c.pairs-2.ensures.same c.pairs-3.ensures.same c.pairs-7.ensures.same c.pairs-8.ensures.same
    c.exchange.new.rows c.recount.new.self.counts c.in_ok-sums.sums c.in-Ok.exchange c.in_ok-names.ensures.ok c.in_ok-sums.ensures c.in-Ok.ensures.ok in
    let new = merged (pairs_at kept.rows name) ops in
    let was : RowWas = record { name = c.in_ok-kept.kept; exchange = c.in-Ok.exchange; emptied = not c.has_left-left.result; names = c.in_ok-names.names; sums = kept.sums } in
    edit_back kept name new c.exchange.new.rows c.recount.new.self c.in_ok-sums.sums c.self.invariant edit.are edit.rises edit.recounts c.in_ok-names.ensures.tallied edit.sums_are was
    (ap (λ n. row_back c.exchange.new.rows n c.in-Ok.exchange) c.in_ok-kept.ensures ∙ edit.back_are) refl c.in_ok-names.ensures.back
    ∙ c.self.view_is

pub returns-in-Ok-clause-only : goal.returns-in-Ok-clause-only
returns-in-Ok-clause-only c =
    let kept : Kept = record { rows = c.self.inside.rows; names = c.self.inside.names; sums = c.self.inside.sums } in
    let name = c.args.name.now in
    let ops = c.args.ops.now in
    let old : c.unwrap_or-old.result.now ≡ pairs_at kept.rows name =
    ap (λ b. b.now) c.unwrap_or-old.ensures ∙ lent c.get.result _ ∙ ap (λ o. unwrap_or o c.new-none.result) c.get.ensures.value ∙ ap (unwrap_or (found text_cmp kept.rows name)) c.new-none.ensures in
    let edit : RowEdited kept name ops c.exchange.new.rows c.recount.new.self.counts c.in_ok-sums.sums c.in-Ok.exchange =
    row_edited kept name ops c.self.invariant c.unwrap_or-old.result.now c.in_ok-out.out c.in_ok-put.put old c.in_ok-out.ensures c.in_ok-put.ensures c.pairs.ensures.rising
    c.pairs.result.now c.pairs-2.result.now c.pairs-3.result.now c.pairs-7.result.now c.pairs-8.result.now c.pairs.ensures.same c.pairs-2.ensures.same c.pairs-3.ensures.same c.pairs-7.ensures.same c.pairs-8.ensures.same
    c.exchange.new.rows c.recount.new.self.counts c.in_ok-sums.sums c.in-Ok.exchange c.in_ok-names.ensures.ok c.in_ok-sums.ensures c.in-Ok.ensures.ok in
    let new = merged (pairs_at kept.rows name) ops in
    let was : RowWas = record { name = c.in_ok-kept.kept; exchange = c.in-Ok.exchange; emptied = not c.has_left-left.result; names = c.in_ok-names.names; sums = kept.sums } in
    subst (λ (k : Kept). ChangesOnly k (record { rows = c.exchange.new.rows; names = c.recount.new.self; sums = c.in_ok-sums.sums }) was) c.self.view_is
    (edit_only kept name new c.exchange.new.rows c.recount.new.self c.in_ok-sums.sums c.self.invariant edit.are edit.rises edit.recounts c.in_ok-names.ensures.tallied edit.sums_are was c.has_left-left.result c.in_ok-kept.ensures refl
    (row_left kept name ops c.self.invariant c.unwrap_or-old.result.now c.in_ok-out.out c.in_ok-put.put old c.in_ok-out.ensures c.in_ok-put.ensures c.pairs.ensures.rising
    c.pairs-4.result.now c.pairs-5.result.now c.pairs-6.result.now c.pairs-4.ensures.same c.pairs-5.ensures.same c.pairs-6.ensures.same c.has_left-left.result c.has_left-left.ensures)
    c.in_ok-names.ensures.logged)

pub returns-in-Ok-clause-room : goal.returns-in-Ok-clause-room
returns-in-Ok-clause-room c =
    let kept : Kept = record { rows = c.self.inside.rows; names = c.self.inside.names; sums = c.self.inside.sums } in
    let name = c.args.name.now in
    let ops = c.args.ops.now in
    let old : c.unwrap_or-old.result.now ≡ pairs_at kept.rows name =
    ap (λ b. b.now) c.unwrap_or-old.ensures ∙ lent c.get.result _ ∙ ap (λ o. unwrap_or o c.new-none.result) c.get.ensures.value ∙ ap (unwrap_or (found text_cmp kept.rows name)) c.new-none.ensures in
    let edit : RowEdited kept name ops c.exchange.new.rows c.recount.new.self.counts c.in_ok-sums.sums c.in-Ok.exchange =
    row_edited kept name ops c.self.invariant c.unwrap_or-old.result.now c.in_ok-out.out c.in_ok-put.put old c.in_ok-out.ensures c.in_ok-put.ensures c.pairs.ensures.rising
    c.pairs.result.now c.pairs-2.result.now c.pairs-3.result.now c.pairs-7.result.now c.pairs-8.result.now c.pairs.ensures.same c.pairs-2.ensures.same c.pairs-3.ensures.same c.pairs-7.ensures.same c.pairs-8.ensures.same
    c.exchange.new.rows c.recount.new.self.counts c.in_ok-sums.sums c.in-Ok.exchange c.in_ok-names.ensures.ok c.in_ok-sums.ensures c.in-Ok.ensures.ok in
    let new = merged (pairs_at kept.rows name) ops in
    subst (λ n. HasRoom (found text_cmp c.exchange.new.rows n) c.in-Ok.exchange) (sym c.in_ok-kept.ensures) edit.has_room
