-- What is looked up in order.
use Rattle.std.specs.Prelude.{ℕ, List, Option, None, Some, filter, slice_get, is_some, if◌then◌else◌, option_map}
use Rattle.std.specs.Ordering.{is_lt}
use Rattle.sdb_base.specs.Texts.{text_cmp}
use Rattle.sdb_pairs.specs.Accounts.{ItemEntries, DomainEntries}
use Rattle.sdb_base.specs.Entries.{found}
use Rattle.sdb_domain.specs.Weights.{domains_of}

-- the entries whose keys are above the given one
abbrev pub entries_after : {X : Type 0} → List (List ℕ × X) → Option (List ℕ) → List (List ℕ × X)
entries_after es None = es
entries_after es (Some key) = filter (λ e. is_lt (text_cmp key e.0)) es

-- the first of them, which is the least where the keys rise
abbrev pub least_after : {X : Type 0} → List (List ℕ × X) → Option (List ℕ) → Option (List ℕ × X)
least_after es after = slice_get (entries_after es after) 0

-- the name, where such an item is there
abbrev pub held_text : ItemEntries → List ℕ → Option (List ℕ)
held_text items name = if is_some (found text_cmp items name) then Some name else None

-- the account's domains whose names are above the given one
abbrev pub domains_after : DomainEntries → ℕ → Option (List ℕ) → DomainEntries
domains_after accounts account None = domains_of accounts account
domains_after accounts account (Some name) = filter (λ domain. is_lt (text_cmp name domain.0.1)) (domains_of accounts account)

-- the name of the first of them, which is the least
abbrev pub name_after : DomainEntries → ℕ → Option (List ℕ) → Option (List ℕ)
name_after accounts account after = option_map (λ domain. domain.0.1) (slice_get (domains_after accounts account after) 0)
