use Rattle.std.proofs.Common.{◌∷◌, ◌++◌, [], length, is_some, sym, ◌∙◌, ap, arith, length-append}
use Rattle.std.specs.Option.{option_copied}
use Rattle.sdb_answer.specs.Listing.{names_after}
use Rattle.sdb_answer.proofs.ListingLemmas.{is_some-map, walk-end, walk-step, walked-all, walked-left, walked-more, walked-most}
use Rattle.sdb_answer.proofs.listing.walk.Goals as goal

pub loop-place-init : goal.loop-place-init
loop-place-init c = record {
  all = ap (λ l. l ++ names_after c.args.accounts.now c.args.account (option_copied c.args.after)) (sym c.new-names.ensures);
  counted = ap length c.new-names.ensures;
}

pub loop-place-preserved : goal.loop-place-preserved
loop-place-preserved c =
    let accounts = c.args.accounts.now in
    let account = c.args.account in
    let so_far = c.loop-place.invariant in
    let last = option_copied c.loop-place.last in
    let name = c.in-Some.name.now in
    let pushed = c.in_ok-push.ensures.ok ∙ ap (λ t. c.loop-place.names ++ t ∷ []) c.in_ok-copy.ensures in
    record {
      all = walked-more (names_after accounts account (option_copied c.args.after)) c.loop-place.names c.push.new.self (names_after accounts account last) name _
          so_far.all (walk-step accounts account last name c.in_ok-in_order.ensures (sym c.in-Some.ensures)) pushed;
      counted = omega (arith, so_far.counted, ap length pushed, length-append c.loop-place.names (name ∷ []));
    }

pub returns-in_default-clause-names : goal.returns-in_default-clause-names
returns-in_default-clause-names c =
    let accounts = c.args.accounts.now in
    let account = c.args.account in
    let so_far = c.loop-place.invariant in
    let last = option_copied c.loop-place.last in
    (walked-all (names_after accounts account (option_copied c.args.after)) c.loop-place.names (names_after accounts account last) c.args.most
    so_far.all (walk-end accounts account last (sym c.in_default.ensures)) (omega (arith, so_far.counted))).0

pub returns-in_default-clause-more : goal.returns-in_default-clause-more
returns-in_default-clause-more c =
    let accounts = c.args.accounts.now in
    let account = c.args.account in
    let so_far = c.loop-place.invariant in
    let last = option_copied c.loop-place.last in
    (walked-all (names_after accounts account (option_copied c.args.after)) c.loop-place.names (names_after accounts account last) c.args.most
    so_far.all (walk-end accounts account last (sym c.in_default.ensures)) (omega (arith, so_far.counted))).1

pub returns-clause-names : goal.returns-clause-names
returns-clause-names c =
    let accounts = c.args.accounts.now in
    let account = c.args.account in
    let so_far = c.loop-place.invariant in
    walked-most (names_after accounts account (option_copied c.args.after)) c.loop-place.names (names_after accounts account (option_copied c.loop-place.last)) c.args.most
    so_far.all (omega (arith, so_far.counted))

pub returns-clause-more : goal.returns-clause-more
returns-clause-more c =
    let accounts = c.args.accounts.now in
    let account = c.args.account in
    let so_far = c.loop-place.invariant in
    let last = option_copied c.loop-place.last in
    c.is_some-more.ensures
    ∙ sym (is_some-map (λ t. t.now) c.domain_after-2.result)
    ∙ ap is_some c.domain_after-2.ensures
    ∙ walked-left accounts account last (names_after accounts account (option_copied c.args.after)) c.loop-place.names c.args.most c.in_ok-in_order.ensures so_far.all (omega (arith, so_far.counted))
