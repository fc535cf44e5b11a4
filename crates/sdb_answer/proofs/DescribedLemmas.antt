-- The numbers of a domain as one value.
use Rattle.std.proofs.Common.{◌≡◌}
use Rattle.sdb_pairs.specs.Accounts.{ItemEntries}
use Rattle.sdb_domain.specs.declared.metadata.Metadata.{Metadata}
use Rattle.sdb_domain.specs.Metadata.{Describes}
use Rattle.sdb_answer.specs.Described.{metadata_of}

-- numbers that describe a domain are its numbers
pub described-as : (items : ItemEntries) (numbers : Metadata) → Describes items numbers → numbers ≡ metadata_of items
described-as items numbers are = λ i. record {
  items = are.items_are i;
  item_bytes = are.item_bytes_are i;
  names = are.names_are i;
  name_bytes = are.name_bytes_are i;
  pairs = are.pairs_are i;
  value_bytes = are.value_bytes_are i;
}
