-- What DomainMetadata answers.
use Rattle.std.specs.Prelude.{ℕ, length, Option, None, Some}
use Rattle.std.specs.List.{sum_by}
use Rattle.sdb_pairs.specs.Accounts.{ItemEntries}
use Rattle.sdb_domain.specs.declared.metadata.Metadata.{Metadata as Numbers}
use Rattle.sdb_domain.specs.Weights.{names_of, value_bytes_of}
use Rattle.sdb_tables.specs.declared.refusal.Refusal.TheVariants.{NoSuchDomain}
use Rattle.sdb_reply.specs.declared.outcome.Outcome.{Outcome}
use Rattle.sdb_reply.specs.declared.outcome.Outcome.TheVariants.{Metadata, Refused}

-- the numbers of a domain: its items and the bytes of their names, its distinct attribute names and their bytes, its pairs and the bytes of their values
abbrev pub metadata_of : ItemEntries → Numbers
metadata_of items = record {
  items = length items;
  item_bytes = sum_by (λ item. length item.0) items;
  names = length (names_of items);
  name_bytes = sum_by length (names_of items);
  pairs = sum_by (λ item. length item.1) items;
  value_bytes = sum_by (λ item. value_bytes_of item.1) items;
}

-- the outcome of DomainMetadata of a domain of these items, at a moment
abbrev pub described : Option ItemEntries → (moment : ℕ) → Outcome
described None moment = Refused NoSuchDomain
described (Some items) moment = Metadata (metadata_of items) moment
