use Rattle.std.proofs.Common.{◌≡◌, ◌<◌, ◌++◌, ◌∷◌, [], true, false, cond, ◌+◌, length, take, refl, sym, subst, ap, ◌∙◌, arith}
use Rattle.std.specs.List.{IsDistinct, list_any}
use Rattle.std.specs.Ordering.{is_eq, nat_cmp}
use Rattle.std.specs.Cmp.Lexicographic.{slice_cmp}
use Rattle.std.specs.Map.{keys_of}
use Rattle.std.specs.Str.{bytes_eq}
use Rattle.std.proofs.lemmas.List.{take_more, take_all}
use Rattle.std.proofs.lemmas.Map.Entries.{length-keys_of}
use Rattle.sdb_form.proofs.Repeats.{first_repeat, distinct_more, found_more, name_at, not_false, not_true, none_apart}
use Rattle.sdb_form.proofs.names.first_repeated.Goals as goal

pub loop-place-init : goal.loop-place-init
loop-place-init c =
    rw c.new-seen.ensures.empty (record { distinct = none_apart; found = λ name. refl })

pub returns-then-not-branch : goal.returns-then-not-branch
returns-then-not-branch c =
    let names = keys_of c.args.pairs.now in
    let i = c.loop-place.place in
    let inside : i < length names = omega (arith, length-keys_of c.args.pairs.now) in
    let same = c.as_str.ensures.value ∙ name_at c.args.pairs.now i c.index-pairs-place.result c.loop-place-test.true c.index-pairs-place.is in
    let there = not_false _ (sym c.in_ok-insert.ensures.added ∙ c.if-not-branch.true) in
    let found = sym (c.loop-place.invariant.found c.as_str.result.now) ∙ there in
    first_repeat names i inside c.loop-place.invariant.distinct (subst (λ name. list_any (bytes_eq name) (take i names) ≡ true) same found)

pub loop-place-preserved : goal.loop-place-preserved
loop-place-preserved c =
    let names = keys_of c.args.pairs.now in
    let i = c.loop-place.place in
    let key = c.as_str.result.now in
    let inside : i < length names = omega (arith, length-keys_of c.args.pairs.now) in
    let same = c.as_str.ensures.value ∙ name_at c.args.pairs.now i c.index-pairs-place.result c.loop-place-test.true c.index-pairs-place.is in
    let absent = not_true _ (sym c.in_ok-insert.ensures.added ∙ c.if-not-branch.false) in
    let new = sym (c.loop-place.invariant.found key) ∙ absent in
    let longer : take (i + 1) names ≡ take i names ++ key ∷ [] = take_more names i [] inside ∙ ap (λ name. take i names ++ name ∷ []) (sym same) in
    record {
      distinct = distinct_more names i inside c.loop-place.invariant.distinct (subst (λ name. list_any (bytes_eq name) (take i names) ≡ false) same new);
      found = λ name.
          c.in_ok-insert.ensures.updates.0 (record { ref_ptr = (0, 0); now = name })
          ∙ ap (λ old. cond (is_eq (slice_cmp nat_cmp key name)) true old) (c.loop-place.invariant.found name)
          ∙ found_more name key (take i names)
          ∙ ap (list_any (bytes_eq name)) (sym longer);
    }

pub returns : goal.returns
returns c =
    let names = keys_of c.args.pairs.now in
    subst (IsDistinct bytes_eq) (take_all c.loop-place.place names (omega (arith, length-keys_of c.args.pairs.now))) c.loop-place.invariant.distinct
