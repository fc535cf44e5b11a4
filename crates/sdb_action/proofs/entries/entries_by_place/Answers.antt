use Rattle.std.proofs.Common.{◌≤◌, ◌∙◌, arith, List, [], ◌∷◌, ◌++◌, Option, Some, cond, length, map, unwrap_or, sym, ap, eqb, ℕ}
use Rattle.std.specs.Ordering.{nat_cmp}
use Rattle.std.specs.BTreeMap.{BTreeMap, get}
use Rattle.std.proofs.lemmas.List.{take_all}
use Rattle.sdb_base.specs.Pairs.{NamedValues}
use Rattle.sdb_action.specs.Numbers.{part_of}
use Rattle.sdb_action.specs.Entries.{entry_at}
use Rattle.sdb_action.proofs.Grouping.{no_part, one_part, taken_more}
use Rattle.sdb_action.proofs.entries.entries_by_place.Goals as goal
use Rattle.sdb_action.proofs.entries.entries_by_place.Goals.{in-Some+in_ok-add_part, in_default}

pub loop-pair-preserved : goal.loop-pair-preserved
loop-pair-preserved g c =
    let param : List ℕ × List ℕ = g.P.NamedValue.named c.pair-item.result in
    let more = taken_more g.P.NamedValue.named c.args.pairs.now c.loop-pair.pair-index c.pair-item.result (omega arith) c.pair-item.is in
    elim c.match-part_of.branch [
      | in-Some+in_ok-add_part w ↦ λ q.
          ap (λ (m : BTreeMap ℕ NamedValues). get nat_cmp m q) w.all-is
          ∙ w.in_ok-add_part.ensures q
          ∙ ap (λ (had : Option NamedValues). cond (eqb w.in-Some.place q) (Some (unwrap_or had [] ++ (w.in-Some.name.now, w.value-value.result.now) ∷ [])) had) (c.loop-pair.invariant q)
          ∙ ap (λ (value : List ℕ). let had : Option NamedValues = entry_at c.args.kind _ q in cond (eqb w.in-Some.place q) (Some (unwrap_or had [] ++ (w.in-Some.name.now, value) ∷ [])) had) w.value-value.ensures
          ∙ one_part c.args.kind _ param (w.in-Some.place, w.in-Some.name.now) q (ap (part_of c.args.kind) (sym c.name.ensures) ∙ sym w.in-Some.ensures)
          ∙ ap (λ (params : NamedValues). entry_at c.args.kind params q) more
      | in_default w ↦ λ q.
          ap (λ (m : BTreeMap ℕ NamedValues). get nat_cmp m q) w.all-is
          ∙ c.loop-pair.invariant q
          ∙ no_part c.args.kind _ param q (ap (part_of c.args.kind) (sym c.name.ensures) ∙ sym w.in_default.ensures)
          ∙ ap (λ (params : NamedValues). entry_at c.args.kind params q) more
    ]

pub returns : goal.returns
returns g c =
    let ended : length c.args.pairs.now ≤ c.loop-pair.pair-index = omega arith in
    λ place.
    c.loop-pair.invariant place
    ∙ ap (λ pairs. entry_at c.args.kind (map g.P.NamedValue.named pairs) place) (take_all c.loop-pair.pair-index c.args.pairs.now ended)
