-- What changes make of accounts.
use Rattle.std.specs.Prelude.{ℕ, List, [], ◌∷◌, fold, unwrap_or, Option, None, Some}
use Rattle.sdb_base.specs.Texts.{text_cmp}
use Rattle.sdb_pairs.specs.declared.pair.Pair.{Pair}
use Rattle.sdb_pairs.specs.declared.op.Op.{Op}
use Rattle.sdb_pairs.specs.declared.change.Change.{Change}
use Rattle.sdb_pairs.specs.declared.change.Change.TheVariants.{MakeDomain, DropDomain, Edit}
use Rattle.sdb_pairs.specs.Accounts.{ItemEntries, DomainEntries, domain_cmp, items_of, pairs_at}
use Rattle.sdb_base.specs.Entries.{placed}
use Rattle.sdb_pairs.specs.Pairs.{merged}

-- the pairs as an item: without pairs there is none
abbrev pub item_with : List Pair → Option (List Pair)
item_with [] = None
item_with (p ∷ ps) = Some (p ∷ ps)

-- the items after the operations on one of them
abbrev pub edited : ItemEntries → List ℕ → List Op → ItemEntries
edited items name ops = placed text_cmp items name (item_with (merged (pairs_at items name) ops))

-- the items of a domain, none where it isn't there
abbrev pub items_or_none : DomainEntries → ℕ → List ℕ → ItemEntries
items_or_none accounts account domain = unwrap_or (items_of accounts account domain) []

-- the accounts after one change. A domain that is made keeps the items that it has. A domain that is dropped goes with its items. An edit makes its domain first.
abbrev pub after_change : DomainEntries → Change → DomainEntries
after_change accounts (MakeDomain account domain) = placed domain_cmp accounts (account, domain) (Some (items_or_none accounts account domain))
after_change accounts (DropDomain account domain) = placed domain_cmp accounts (account, domain) None
after_change accounts (Edit account domain item ops) = placed domain_cmp accounts (account, domain) (Some (edited (items_or_none accounts account domain) item ops))

-- the accounts after the changes in order
abbrev pub state : DomainEntries → List Change → DomainEntries
state accounts changes = fold after_change accounts changes
