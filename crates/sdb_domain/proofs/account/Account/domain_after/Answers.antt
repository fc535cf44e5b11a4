use Rattle.std.proofs.Common.{◌≡◌, ◌∙◌, sym, ap, map, ◌++◌, ◌∷◌, [], option_map}
use Rattle.std.specs.Option.{option_copied}
use Rattle.std.specs.Map.Iter.{deref_pair}
use Rattle.std.proofs.lemmas.List.{map-append}
use Rattle.std.proofs.lemmas.Map.Iter.{rest_more, rest_so_far}
use Rattle.sdb_domain.specs.Slots.{shown, domains_shown, AccountKept}
use Rattle.sdb_domain.specs.Keyed.{seen}
use Rattle.sdb_domain.specs.LookUps.{entries_after, least_after}
use Rattle.sdb_domain.proofs.RangeLemmas.{least_found, least_none, hidden_more, append_nil}
use Rattle.sdb_domain.proofs.SlotLemmas.{none_given, some_given}
use Rattle.sdb_domain.proofs.account.Account.domain_after.Goals as goal

pub loop-name-preserved : goal.loop-name-preserved
loop-name-preserved c =
    ap (seen shown) (map-append deref_pair c.loop-name.yielded ((c.in-Some.name, c.in-Some.slot) ∷ []))
    ∙ hidden_more shown (map deref_pair c.loop-name.yielded) c.in-Some.name.now c.in-Some.slot.now c.loop-name.invariant
    (none_given (shown c.in-Some.slot.now) (sym c.shows.ensures ∙ c.if-shows.false))

pub returns-then-shows : goal.returns-then-shows
returns-then-shows c =
    let after = option_copied c.args.after in
    let all : entries_after c.self.inside.slots after ≡ map deref_pair c.loop-name.yielded ++ (c.in-Some.name.now, c.in-Some.slot.now) ∷ c.next.new.self =
    sym (c.into_iter-name-iterator.ensures.into_iter_gives ∙ c.range_after-name-items.ensures.entries)
    ∙ rest_so_far deref_pair c.loop-name.yielded c.into_iter-name-iterator.result c.loop-name.name-iterator c.loop-name.yielded_by
    ∙ ap (λ l. map deref_pair c.loop-name.yielded ++ l) (rest_more deref_pair c.loop-name.name-iterator c.next.new.self c.next.result (c.in-Some.name, c.in-Some.slot) c.in-Some.is c.next.ensures.steps) in
    ap (option_map (λ domain. domain.0))
    (least_found shown c.self.inside.slots after (map deref_pair c.loop-name.yielded) c.in-Some.name.now c.in-Some.slot.now _ c.next.new.self all c.loop-name.invariant
    (some_given (shown c.in-Some.slot.now) (sym c.shows.ensures ∙ c.if-shows.true))
    ∙ ap (λ (k : AccountKept). least_after (domains_shown k.slots) after) c.self.view_is)

pub returns : goal.returns
returns c =
    let after = option_copied c.args.after in
    let all : entries_after c.self.inside.slots after ≡ map deref_pair c.loop-name.yielded =
    sym (c.into_iter-name-iterator.ensures.into_iter_gives ∙ c.range_after-name-items.ensures.entries)
    ∙ rest_so_far deref_pair c.loop-name.yielded c.into_iter-name-iterator.result c.loop-name.name-iterator c.loop-name.yielded_by
    ∙ ap (λ l. map deref_pair c.loop-name.yielded ++ l) c.in-None.ensures.steps.0
    ∙ append_nil (map deref_pair c.loop-name.yielded) in
    ap (option_map (λ domain. domain.0))
    (least_none shown c.self.inside.slots after (map deref_pair c.loop-name.yielded) all c.loop-name.invariant
    ∙ ap (λ (k : AccountKept). least_after (domains_shown k.slots) after) c.self.view_is)
