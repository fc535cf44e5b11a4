-- The numbers that describe a domain.
use Rattle.std.specs.Prelude.{◌≡◌, length}
use Rattle.std.specs.List.{sum_by}
use Rattle.sdb_pairs.specs.Accounts.{ItemEntries}
use Rattle.sdb_domain.specs.declared.metadata.Metadata.{Metadata}
use Rattle.sdb_domain.specs.Weights.{names_of, pair_count, value_bytes_of}

-- the numbers are those of the items: how many they are, and the bytes of their names; how many distinct
-- attribute names they have, and the bytes of those; how many pairs, and the bytes of their values
pub record Describes (items : ItemEntries) (metadata : Metadata) : Type 0 where
  pub items_are : metadata.items ≡ length items
  pub item_bytes_are : metadata.item_bytes ≡ sum_by (λ item. length item.0) items
  pub names_are : metadata.names ≡ length (names_of items)
  pub name_bytes_are : metadata.name_bytes ≡ sum_by length (names_of items)
  pub pairs_are : metadata.pairs ≡ pair_count items
  pub value_bytes_are : metadata.value_bytes ≡ sum_by (λ item. value_bytes_of item.1) items
