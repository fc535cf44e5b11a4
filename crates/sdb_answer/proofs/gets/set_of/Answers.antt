use Rattle.std.proofs.Common.{◌≡◌, ◌<◌, ◌+◌, ◌++◌, ◌∷◌, [], true, cond, length, take, refl, sym, ◌∙◌, ap, subst, arith}
use Rattle.std.specs.List.{list_any}
use Rattle.std.specs.Ordering.{is_eq, nat_cmp}
use Rattle.std.specs.Cmp.Lexicographic.{slice_cmp}
use Rattle.std.specs.Str.{bytes_eq}
use Rattle.std.proofs.lemmas.List.{take_more, take_all}
use Rattle.sdb_form.proofs.Repeats.{found_more}
use Rattle.sdb_answer.specs.Gets.{Finds}
use Rattle.sdb_answer.proofs.gets.set_of.Goals as goal

pub loop-name-init : goal.loop-name-init
loop-name-init c = rw c.new-set.ensures.empty (λ name. refl)

pub loop-name-preserved : goal.loop-name-preserved
loop-name-preserved c =
    let names = c.as_slice-name-items.result.now in
    let i = c.loop-name.name-index in
    let key = c.as_str.result.now in
    let inside : i < length names = omega arith in
    let same : key ≡ c.name-item.result = c.as_str.ensures.value in
    let longer : take (i + 1) names ≡ take i names ++ key ∷ [] = take_more names i c.name-item.result inside ∙ ap (λ name. take i names ++ name ∷ []) (sym c.name-item.is ∙ sym same) in
    λ name.
    c.in_ok-insert.ensures.updates.0 (record { ref_ptr = (0, 0); now = name })
    ∙ ap (λ old. cond (is_eq (slice_cmp nat_cmp key name)) true old) (c.loop-name.invariant name)
    ∙ found_more name key (take i names)
    ∙ ap (list_any (bytes_eq name)) (sym longer)

pub returns : goal.returns
returns c =
    let names = c.as_slice-name-items.result.now in
    let whole : take c.loop-name.name-index names ≡ c.args.names.now = take_all c.loop-name.name-index names (omega arith) ∙ c.as_slice-name-items.ensures in
    subst (Finds c.loop-name.set.keys) whole c.loop-name.invariant
