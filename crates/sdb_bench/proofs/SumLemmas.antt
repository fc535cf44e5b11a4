-- Sums over domains.
use Rattle.std.proofs.Common.{◌≡◌, ℕ, ◌+◌, ◌*◌, ◌≤◌, ◌<◌, ◌^◌, List, [], ◌∷◌, length, Option, Some, refl, ap, arith}
use Rattle.std.specs.List.{sum_by}
use Rattle.std.proofs.lemmas.List.Sums.{sum_by-cons}
use Rattle.sdb_answer.proofs.ListingLemmas.{named}
use Rattle.sdb_bench.specs.Measures.{sum_in}
use Rattle.sdb_domain.specs.LookUps.{domains_after}
use Rattle.sdb_domain.specs.Weights.{account_weight, domain_weight, domains_of, item_weight, pair_count, pair_weight}
use Rattle.sdb_pairs.specs.Accounts.{DomainEntries, ItemEntries}
use Rattle.sdb_pairs.specs.declared.pair.Pair.{Pair}

-- a number of each domain under its name, added up
abbrev pub sum_named : (ItemEntries → ℕ) → List (List ℕ × ItemEntries) → ℕ
sum_named number domains = sum_by (λ domain. number domain.1) domains

pub named-sum : (number : ItemEntries → ℕ) (domains : DomainEntries) → sum_named number (named domains) ≡ sum_in number domains
named-sum number [] = refl
named-sum number (domain ∷ domains) =
    omega (arith, sum_by-cons (λ d. number d.1) (domain.0.1, domain.1) (named domains), sum_by-cons (λ d. number d.1) domain domains, named-sum number domains)

-- ---- domains that are added one after the other

-- what was added, and what the domains behind the last one have, is what all have
pub record Adding (number : ItemEntries → ℕ) (accounts : DomainEntries) (account : ℕ) (last : Option (List ℕ)) (added : ℕ) : Type 0 where
  pub all : added + sum_named number (named (domains_after accounts account last)) ≡ sum_in number (domains_of accounts account)

pub Adding-more : (number : ItemEntries → ℕ) (accounts : DomainEntries) (account : ℕ) (last : Option (List ℕ)) (added more : ℕ) (name : List ℕ) (items held : ItemEntries)
    (rest : List (List ℕ × ItemEntries)) (at : Option ItemEntries) → Adding number accounts account last added → named (domains_after accounts account last) ≡ (name, items) ∷ rest
    → named (domains_after accounts account (Some name)) ≡ rest → Some held ≡ at → at ≡ Some items → more ≡ number held
    → Adding number accounts account (Some name) (added + more)
Adding-more number accounts account last added more name items held rest at adding now behind found is counted =
    let same : held ≡ items = cc in record {
      all = omega (arith, adding.all, ap (sum_named number) now, ap (sum_named number) behind, sum_by-cons (λ d. number d.1) (name, items) rest, counted, ap number same);
    }

-- what is added next is within the whole
pub Adding-fits : (number : ItemEntries → ℕ) (accounts : DomainEntries) (account : ℕ) (last : Option (List ℕ)) (added more : ℕ) (name : List ℕ) (items held : ItemEntries)
    (rest : List (List ℕ × ItemEntries)) (at : Option ItemEntries) → Adding number accounts account last added → named (domains_after accounts account last) ≡ (name, items) ∷ rest
    → Some held ≡ at → at ≡ Some items → more ≡ number held → added + more ≤ sum_in number (domains_of accounts account)
Adding-fits number accounts account last added more name items held rest at adding now found is counted =
    let same : held ≡ items = cc in
    omega (arith, adding.all, ap (sum_named number) now, sum_by-cons (λ d. number d.1) (name, items) rest, counted, ap number same)

-- all are added
pub Adding-all : (number : ItemEntries → ℕ) (accounts : DomainEntries) (account : ℕ) (last : Option (List ℕ)) (added : ℕ) → Adding number accounts account last added
    → named (domains_after accounts account last) ≡ [] → added ≡ sum_in number (domains_of accounts account)
Adding-all number accounts account last added adding none = omega (arith, adding.all, ap (sum_named number) none)

-- ---- weights

pairs-weight : (pairs : List Pair) → 64 * length pairs ≤ sum_by pair_weight pairs
pairs-weight [] = omega arith
pairs-weight (p ∷ pairs) = omega (arith, sum_by-cons pair_weight p pairs, pairs-weight pairs)

items-weight : (items : ItemEntries) → 64 * length items ≤ domain_weight items
items-weight [] = omega arith
items-weight (item ∷ items) = omega (arith, sum_by-cons item_weight item items, items-weight items)

pairs-of-items-weight : (items : ItemEntries) → 64 * pair_count items ≤ domain_weight items
pairs-of-items-weight [] = omega arith
pairs-of-items-weight (item ∷ items) =
    omega (arith, sum_by-cons item_weight item items, sum_by-cons (λ (i : List ℕ × List Pair). length i.1) item items, pairs-weight item.1, pairs-of-items-weight items)

abbrev weight : (ℕ × List ℕ) × ItemEntries → ℕ
weight domain = domain_weight domain.1

few : (number : ItemEntries → ℕ) → ((items : ItemEntries) → 64 * number items ≤ domain_weight items) → (domains : DomainEntries) → 64 * sum_in number domains ≤ sum_by weight domains
few number light [] = omega arith
few number light (domain ∷ domains) =
    omega (arith, sum_by-cons (λ d. number d.1) domain domains, sum_by-cons weight domain domains, light domain.1, few number light domains)

-- an account's items and pairs are few, as its weight is a number of 64 bits
pub few_items : (accounts : DomainEntries) (account weighs : ℕ) → weighs ≡ account_weight accounts account → weighs < 2 ^ 64 → sum_in length (domains_of accounts account) < 2 ^ 58
few_items accounts account weighs is small = omega (arith, is, small, few length items-weight (domains_of accounts account))

pub few_pairs : (accounts : DomainEntries) (account weighs : ℕ) → weighs ≡ account_weight accounts account → weighs < 2 ^ 64 → sum_in pair_count (domains_of accounts account) < 2 ^ 58
few_pairs accounts account weighs is small = omega (arith, is, small, few pair_count pairs-of-items-weight (domains_of accounts account))
