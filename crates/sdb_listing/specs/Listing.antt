-- What a store holds, as text.
use Rattle.std.specs.Prelude.{ℕ, zero, suc, ◌+◌, List, [], ◌∷◌, ◌++◌, length, map, codes, decimal}
use Rattle.sdb_pairs.specs.Accounts.{ItemEntries, DomainEntries}
use Rattle.sdb_domain.specs.Weights.{domains_of, pair_count}

-- the line of a domain: account, name, items and pairs
abbrev pub domain_line : ℕ → List ℕ → ItemEntries → List ℕ
domain_line account name items = decimal account ++ 32 ∷ name ++ 32 ∷ decimal (length items) ++ 32 ∷ decimal (pair_count items) ++ 10 ∷ []

-- the lines of domains of one account, under their names
abbrev pub named_lines : ℕ → List (List ℕ × ItemEntries) → List ℕ
named_lines account [] = []
named_lines account (domain ∷ domains) = domain_line account domain.0 domain.1 ++ named_lines account domains

-- the lines of an account's domains, which stand by name
abbrev pub account_lines : DomainEntries → ℕ → List ℕ
account_lines accounts account = named_lines account (map (λ domain. (domain.0.1, domain.1)) (domains_of accounts account))

-- the lines of the accounts from 1 to a number
abbrev pub lines_to : DomainEntries → ℕ → List ℕ
lines_to accounts zero = []
lines_to accounts (suc n) = lines_to accounts n ++ account_lines accounts (n + 1)

-- the whole text; accounts have numbers from 1 to 16
abbrev pub listing_of : ℕ → DomainEntries → List ℕ
listing_of sequence accounts = codes "sequence " ++ decimal sequence ++ 10 ∷ [] ++ lines_to accounts 16
