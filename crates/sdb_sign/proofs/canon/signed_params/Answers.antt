use Rattle.std.proofs.Common.{◌≡◌, ◌∙◌, ℕ, List, true, false, map, refl, sym, ap}
use Rattle.std.specs.Map.Iter.{deref_pair}
use Rattle.std.proofs.lemmas.Bool.{cond-true, cond-false}
use Rattle.sdb_sign.specs.Canon.{is_signed_name, rising}
use Rattle.sdb_sign.proofs.Queries.{map-insert_entry, signed_params-more}
use Rattle.sdb_sign.proofs.canon.signed_params.Goals as goal
use Rattle.sdb_sign.proofs.canon.signed_params.Goals.{then-is_signed_name+in_ok-insert, else-is_signed_name}

pub loop-place-init : goal.loop-place-init
unfolding rising
loop-place-init c = rw c.new-rising.ensures.empty refl

pub loop-place-preserved : goal.loop-place-preserved
loop-place-preserved c =
    let params = c.args.params.now in
    let place = c.loop-place.place in
    let param : List ℕ × List ℕ = (c.at.result.0.now, c.at.result.1.now) in
    let more = signed_params-more params place param c.at.ensures in
    elim c.if-is_signed_name.branch [
      | then-is_signed_name+in_ok-insert w ↦
          let key = w.as_str-then-is_signed_name.result in
          let value = w.as_str-then-is_signed_name-2.result in
          let signed : is_signed_name param.0 ≡ true = ap is_signed_name (sym c.as_str.ensures.value) ∙ sym c.is_signed_name.ensures ∙ w.if-is_signed_name.true in
          ap (λ m. map deref_pair m.entries) w.rising-is
          ∙ ap (map deref_pair) w.in_ok-insert.ensures.entries
          ∙ map-insert_entry c.loop-place.rising.entries key value
          ∙ rw (w.as_str-then-is_signed_name.ensures.value, w.as_str-then-is_signed_name-2.ensures.value, c.loop-place.invariant) refl
          ∙ sym (cond-true _ _ _ signed)
          ∙ sym more
      | else-is_signed_name w ↦
          let unsigned : is_signed_name param.0 ≡ false = ap is_signed_name (sym c.as_str.ensures.value) ∙ sym c.is_signed_name.ensures ∙ w.if-is_signed_name.false in
          ap (λ m. map deref_pair m.entries) w.rising-is
          ∙ c.loop-place.invariant
          ∙ sym (cond-false _ _ _ unsigned)
          ∙ sym more
    ]
