use Rattle.std.proofs.Common.{◌≡◌, ◌≤◌, ◌*◌, ◌^◌, ℕ, length}
use Rattle.sdb_bench.specs.Measures.{sum_to}
use Rattle.sdb_domain.specs.Weights.{pair_count}
use Rattle.sdb_pairs.specs.Accounts.{DomainEntries}
use Rattle.sdb_bench.proofs.counting.count_all.Given as goal

-- the accounts so far, and that their numbers are small
pub record Counting (accounts : DomainEntries) (before items pairs : ℕ) : Type 0 where
  pub items_are : items ≡ sum_to length accounts before
  pub pairs_are : pairs ≡ sum_to pair_count accounts before
  pub few_items : items ≤ before * 2 ^ 58
  pub few_pairs : pairs ≤ before * 2 ^ 58

abbrev pub invariant-loop-before : goal.invariant-loop-before
invariant-loop-before l = Counting l.accounts l.before l.all.items l.all.pairs
