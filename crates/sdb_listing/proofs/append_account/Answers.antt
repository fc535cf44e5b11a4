use Rattle.std.proofs.Common.{◌≡◌, ◌++◌, Some, None, length, sym, ◌∙◌, ap, arith, append-nil}
use Rattle.std.specs.Option.{option_copied}
use Rattle.sdb_listing.specs.Listing.{named_lines}
use Rattle.sdb_listing.proofs.NextLemmas.{next, none_left, line_more}
use Rattle.sdb_listing.proofs.append_account.Goals as goal

pub unreachable-requires : goal.unreachable-requires
unreachable-requires c =
    let n = next c.args.accounts.now c.args.account (option_copied c.loop-name.last) c.in-Some.name.now c.in_default-domain.ensures.accounts (sym c.in-Some.ensures) in
    let none : None ≡ Some n.items = c.in_default-domain.ensures.found ∙ n.held in
    absurd cc

pub loop-name-smaller : goal.loop-name-smaller
loop-name-smaller c =
    let n = next c.args.accounts.now c.args.account (option_copied c.loop-name.last) c.in-Some.name.now c.in-Some-domain.ensures.accounts (sym c.in-Some.ensures) in
    omega (arith, ap length n.now, ap length n.behind)

pub loop-name-preserved : goal.loop-name-preserved
loop-name-preserved c =
    let n = next c.args.accounts.now c.args.account (option_copied c.loop-name.last) c.in-Some.name.now c.in-Some-domain.ensures.accounts (sym c.in-Some.ensures) in
    line_more _ c.loop-name.text.bytes c.append_domain.new.text.bytes c.args.account c.in-Some.name.now n.items c.in-Some-domain.domain.now _ _ n.rest _
    c.loop-name.invariant n.now n.behind c.in_ok-append_domain.ensures c.in-Some-domain.ensures.found n.held

pub returns : goal.returns
returns c =
    sym (c.loop-name.invariant ∙ ap (λ l. c.loop-name.text.bytes ++ named_lines c.args.account l) (none_left c.args.accounts.now c.args.account (option_copied c.loop-name.last) (sym c.in_default.ensures)) ∙ append-nil c.loop-name.text.bytes)
