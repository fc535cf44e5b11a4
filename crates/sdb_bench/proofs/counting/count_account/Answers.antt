use Rattle.std.proofs.Common.{◌≡◌, Some, None, length, sym, ◌∙◌, ap, arith}
use Rattle.std.specs.Option.{option_copied}
use Rattle.sdb_domain.specs.Weights.{domains_of, pair_count}
use Rattle.sdb_bench.specs.Measures.{sum_in}
use Rattle.sdb_bench.proofs.SumLemmas.{Adding-all, Adding-fits, Adding-more, few_items, few_pairs, named-sum}
use Rattle.sdb_listing.proofs.NextLemmas.{next, none_left}
use Rattle.sdb_bench.proofs.counting.count_account.Goals as goal

pub loop-name-init : goal.loop-name-init
loop-name-init c = record {
  items_so_far = record { all = omega (arith, named-sum length (domains_of c.args.accounts.now c.args.account)) };
  pairs_so_far = record { all = omega (arith, named-sum pair_count (domains_of c.args.accounts.now c.args.account)) };
}

pub unreachable-requires : goal.unreachable-requires
unreachable-requires c =
    let n = next c.args.accounts.now c.args.account (option_copied c.loop-name.last) c.in-Some.name.now c.in_default-domain.ensures.accounts (sym c.in-Some.ensures) in
    let none : None ≡ Some n.items = c.in_default-domain.ensures.found ∙ n.held in
    absurd cc

pub overflow_add-counts : goal.overflow_add-counts
overflow_add-counts c =
    let n = next c.args.accounts.now c.args.account (option_copied c.loop-name.last) c.in-Some.name.now c.in-Some-domain.ensures.accounts (sym c.in-Some.ensures) in
    let few = few_items c.args.accounts.now c.args.account c.weight-weight.result c.weight-weight.ensures (omega arith) in
    let fits = Adding-fits length c.args.accounts.now c.args.account _ c.loop-name.counts.items c.item_count.result c.in-Some.name.now n.items c.in-Some-domain.domain.now n.rest _
    c.loop-name.invariant.items_so_far n.now c.in-Some-domain.ensures.found n.held c.item_count.ensures.count in
    omega (arith, few, fits)

pub overflow_add-counts-in-Some : goal.overflow_add-counts-in-Some
overflow_add-counts-in-Some c =
    let n = next c.args.accounts.now c.args.account (option_copied c.loop-name.last) c.in-Some.name.now c.in-Some-domain.ensures.accounts (sym c.in-Some.ensures) in
    let few = few_pairs c.args.accounts.now c.args.account c.weight-weight.result c.weight-weight.ensures (omega arith) in
    let fits = Adding-fits pair_count c.args.accounts.now c.args.account _ c.loop-name.counts.pairs c.pair_count.result c.in-Some.name.now n.items c.in-Some-domain.domain.now n.rest _
    c.loop-name.invariant.pairs_so_far n.now c.in-Some-domain.ensures.found n.held c.pair_count.ensures in
    omega (arith, few, fits)

pub loop-name-smaller : goal.loop-name-smaller
loop-name-smaller c =
    let n = next c.args.accounts.now c.args.account (option_copied c.loop-name.last) c.in-Some.name.now c.in-Some-domain.ensures.accounts (sym c.in-Some.ensures) in
    omega (arith, ap length n.now, ap length n.behind)

pub loop-name-preserved : goal.loop-name-preserved
loop-name-preserved c =
    let n = next c.args.accounts.now c.args.account (option_copied c.loop-name.last) c.in-Some.name.now c.in-Some-domain.ensures.accounts (sym c.in-Some.ensures) in record {
      items_so_far = Adding-more length c.args.accounts.now c.args.account _ c.loop-name.counts.items c.item_count.result c.in-Some.name.now n.items c.in-Some-domain.domain.now n.rest _
          c.loop-name.invariant.items_so_far n.now n.behind c.in-Some-domain.ensures.found n.held c.item_count.ensures.count;
      pairs_so_far = Adding-more pair_count c.args.accounts.now c.args.account _ c.loop-name.counts.pairs c.pair_count.result c.in-Some.name.now n.items c.in-Some-domain.domain.now n.rest _
          c.loop-name.invariant.pairs_so_far n.now n.behind c.in-Some-domain.ensures.found n.held c.pair_count.ensures;
    }

pub returns-clause-items : goal.returns-clause-items
returns-clause-items c =
    Adding-all length c.args.accounts.now c.args.account _ c.loop-name.counts.items c.loop-name.invariant.items_so_far (none_left c.args.accounts.now c.args.account (option_copied c.loop-name.last) (sym c.in_default.ensures))

pub returns-clause-pairs : goal.returns-clause-pairs
returns-clause-pairs c =
    Adding-all pair_count c.args.accounts.now c.args.account _ c.loop-name.counts.pairs c.loop-name.invariant.pairs_so_far (none_left c.args.accounts.now c.args.account (option_copied c.loop-name.last) (sym c.in_default.ensures))

pub returns-clause-few_items : goal.returns-clause-few_items
returns-clause-few_items c =
    let all : c.loop-name.counts.items ≡ sum_in length (domains_of c.args.accounts.now c.args.account) =
    Adding-all length c.args.accounts.now c.args.account _ c.loop-name.counts.items c.loop-name.invariant.items_so_far (none_left c.args.accounts.now c.args.account (option_copied c.loop-name.last) (sym c.in_default.ensures)) in
    omega (arith, all, few_items c.args.accounts.now c.args.account c.weight-weight.result c.weight-weight.ensures (omega arith))

pub returns-clause-few_pairs : goal.returns-clause-few_pairs
returns-clause-few_pairs c =
    let all : c.loop-name.counts.pairs ≡ sum_in pair_count (domains_of c.args.accounts.now c.args.account) =
    Adding-all pair_count c.args.accounts.now c.args.account _ c.loop-name.counts.pairs c.loop-name.invariant.pairs_so_far (none_left c.args.accounts.now c.args.account (option_copied c.loop-name.last) (sym c.in_default.ensures)) in
    omega (arith, all, few_pairs c.args.accounts.now c.args.account c.weight-weight.result c.weight-weight.ensures (omega arith))
