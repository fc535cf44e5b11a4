-- The items that changes may have made too large.
use Rattle.std.specs.Prelude.{ℕ, Bool, true, nat_le, List, length}
use Rattle.sdb_pairs.specs.declared.change.Change.{Change}
use Rattle.sdb_pairs.specs.declared.change.Change.TheVariants.{MakeDomain, DropDomain, Edit}
use Rattle.sdb_pairs.specs.Accounts.{DomainEntries, pairs_of}

-- the item that the change edits has at most 256 pairs
abbrev pub leaves_small : DomainEntries → Change → Bool
leaves_small accounts (MakeDomain account domain) = true
leaves_small accounts (DropDomain account domain) = true
leaves_small accounts (Edit account domain item ops) = nat_le (length (pairs_of accounts account domain item)) 256
