use Rattle.std.proofs.Common.{ℕ, List, Option, length}
use Rattle.std.specs.Option.{option_copied}
use Rattle.sdb_answer.proofs.ListingLemmas.{named}
use Rattle.sdb_bench.proofs.SumLemmas.{Adding}
use Rattle.sdb_domain.specs.LookUps.{domains_after}
use Rattle.sdb_domain.specs.Weights.{pair_count}
use Rattle.sdb_pairs.specs.Accounts.{DomainEntries}
use Rattle.sdb_bench.proofs.counting.count_account.Given as goal

-- both numbers
pub record Counting (accounts : DomainEntries) (account : ℕ) (last : Option (List ℕ)) (items pairs : ℕ) : Type 0 where
  pub items_so_far : Adding length accounts account last items
  pub pairs_so_far : Adding pair_count accounts account last pairs

abbrev pub invariant-loop-name : goal.invariant-loop-name
invariant-loop-name l = Counting l.accounts l.account (option_copied l.last) l.counts.items l.counts.pairs

abbrev pub decreases-loop-name : goal.decreases-loop-name
decreases-loop-name l = length (named (domains_after l.accounts l.account (option_copied l.last)))
