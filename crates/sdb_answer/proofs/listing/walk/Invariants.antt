use Rattle.std.proofs.Common.{◌≡◌, ◌++◌, ℕ, List, Option, length}
use Rattle.std.specs.Option.{option_copied}
use Rattle.sdb_pairs.specs.Accounts.{DomainEntries}
use Rattle.sdb_answer.specs.Listing.{names_after}
use Rattle.sdb_answer.proofs.listing.walk.Given as goal

-- the names so far, and those behind the last one
pub record Walking (accounts : DomainEntries) (account : ℕ) (after last : Option (List ℕ)) (taken : List (List ℕ)) (count : ℕ) : Type 0 where
  pub all : names_after accounts account after ≡ taken ++ names_after accounts account last
  pub counted : length taken ≡ count

abbrev pub invariant-loop-place : goal.invariant-loop-place
invariant-loop-place l = Walking l.accounts l.account (option_copied l.after) (option_copied l.last) l.names l._place
