use Rattle.std.proofs.Common.{◌≡◌, ◌∙◌, ◌++◌, ◌∷◌, sym, ap, arith, length, map, length-append}
use Rattle.std.specs.Map.Iter.{deref_pair}
use Rattle.std.proofs.lemmas.List.{length-map}
use Rattle.std.proofs.lemmas.Map.Iter.{rest_more, rest_so_far}
use Rattle.sdb_domain.proofs.RangeLemmas.{append_nil}
use Rattle.sdb_domain.proofs.domain.Domain.scan_all.Goals as goal

pub returns-in_err-push-clause-most : goal.returns-in_err-push-clause-most
returns-in_err-push-clause-most g c =
    let so_far = map deref_pair c.loop-name.yielded in
    let all : c.args.self.now ≡ so_far ++ (c.in-Some.name.now, c.in-Some.item.now) ∷ c.next.new.self =
    sym (c.into_iter-name-iterator.ensures.into_iter_gives ∙ c.items-name-items.ensures ∙ c.self.view_is)
    ∙ rest_so_far deref_pair c.loop-name.yielded c.into_iter-name-iterator.result c.loop-name.name-iterator c.loop-name.yielded_by
    ∙ ap (λ l. so_far ++ l) (rest_more deref_pair c.loop-name.name-iterator c.next.new.self c.next.result (c.in-Some.name, c.in-Some.item) c.in-Some.is c.next.ensures.steps) in
    omega (arith, c.loop-name.invariant.1, c.tick.ensures, ap length all, length-append so_far ((c.in-Some.name.now, c.in-Some.item.now) ∷ c.next.new.self), length-map c.loop-name.yielded deref_pair)

pub returns-clause-all : goal.returns-clause-all
returns-clause-all g c =
    let so_far = map deref_pair c.loop-name.yielded in
    c.loop-name.invariant.0
    ∙ sym (append_nil so_far)
    ∙ ap (λ l. so_far ++ l) (sym c.in-None.ensures.steps.0)
    ∙ sym (rest_so_far deref_pair c.loop-name.yielded c.into_iter-name-iterator.result c.loop-name.name-iterator c.loop-name.yielded_by)
    ∙ c.into_iter-name-iterator.ensures.into_iter_gives
    ∙ c.items-name-items.ensures
    ∙ c.self.view_is

pub returns-clause-ticks : goal.returns-clause-ticks
returns-clause-ticks g c =
    let so_far = map deref_pair c.loop-name.yielded in
    let all : c.args.self.now ≡ so_far =
    sym (c.into_iter-name-iterator.ensures.into_iter_gives ∙ c.items-name-items.ensures ∙ c.self.view_is)
    ∙ rest_so_far deref_pair c.loop-name.yielded c.into_iter-name-iterator.result c.loop-name.name-iterator c.loop-name.yielded_by
    ∙ ap (λ l. so_far ++ l) c.in-None.ensures.steps.0
    ∙ append_nil so_far in
    omega (arith, c.loop-name.invariant.1, ap length all, length-map c.loop-name.yielded deref_pair)

pub returns-clause-most : goal.returns-clause-most
returns-clause-most g c =
    let so_far = map deref_pair c.loop-name.yielded in
    let all : c.args.self.now ≡ so_far =
    sym (c.into_iter-name-iterator.ensures.into_iter_gives ∙ c.items-name-items.ensures ∙ c.self.view_is)
    ∙ rest_so_far deref_pair c.loop-name.yielded c.into_iter-name-iterator.result c.loop-name.name-iterator c.loop-name.yielded_by
    ∙ ap (λ l. so_far ++ l) c.in-None.ensures.steps.0
    ∙ append_nil so_far in
    omega (arith, c.loop-name.invariant.1, ap length all, length-map c.loop-name.yielded deref_pair)
