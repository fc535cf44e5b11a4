-- A domain's rows with what is kept beside them.
use Rattle.std.specs.Prelude.{◌≡◌, ℕ, List, [], Some, All}
use Rattle.std.specs.List.{sum_by}
use Rattle.std.specs.List.Sorted.{IsStrictlySortedBy}
use Rattle.std.specs.Map.{values_of}
use Rattle.sdb_base.specs.Texts.{text_cmp}
use Rattle.sdb_base.specs.Entries.{found, IsRising}
use Rattle.sdb_pairs.specs.Accounts.{ItemEntries, AreItems}
use Rattle.sdb_pairs.specs.Changes.{item_with}
use Rattle.sdb_pairs.specs.Pairs.{pair_cmp}
use Rattle.sdb_domain.specs.declared.names.Names.{Names}
use Rattle.sdb_domain.specs.declared.sums.Sums.{Sums}
use Rattle.sdb_domain.specs.Keyed.{seen}
use Rattle.sdb_domain.specs.Names.{count_of, presence, no_names, IsTallied}
use Rattle.sdb_domain.specs.Sums.{row_sums, no_sums}

-- a domain as it is kept: a row without pairs stands for no item
pub record Kept : Type 0 where
  pub rows : ItemEntries
  pub names : Names
  pub sums : Sums

-- the items that are seen
abbrev pub items_kept : Kept → ItemEntries
items_kept kept = seen item_with kept.rows

-- a domain without items
abbrev pub nothing_kept : Kept
nothing_kept = record { rows = []; names = no_names; sums = no_sums }

-- what is kept is right: rows rise, and so do the pairs of each; each sum and count is that of the rows
pub record IsWhole (kept : Kept) : Type 0 where
  pub rows_rise : IsRising text_cmp kept.rows
  pub pairs_rise : All (IsStrictlySortedBy pair_cmp) (values_of kept.rows)
  pub counts : (name : List ℕ) → count_of kept.names.counts name ≡ sum_by (λ row. presence name row.1) kept.rows
  pub tallied : IsTallied kept.names
  pub items : kept.sums.items ≡ sum_by (λ row. (row_sums row).items) kept.rows
  pub item_bytes : kept.sums.item_bytes ≡ sum_by (λ row. (row_sums row).item_bytes) kept.rows
  pub pairs : kept.sums.pairs ≡ sum_by (λ row. (row_sums row).pairs) kept.rows
  pub value_bytes : kept.sums.value_bytes ≡ sum_by (λ row. (row_sums row).value_bytes) kept.rows
  pub weight : kept.sums.weight ≡ sum_by (λ row. (row_sums row).weight) kept.rows

-- nothing is hidden: no row is without pairs, and no name without items
pub record IsClean (kept : Kept) : Type 0 where
  pub rows : (name : List ℕ) → found text_cmp kept.rows name ≡ Some [] → ⊥
  pub names : (name : List ℕ) → found text_cmp kept.names.counts name ≡ Some 0 → ⊥

-- a settled domain: nothing is hidden, item names strictly rise, and each item has pairs that rise
pub record IsInOrder (kept : Kept) : Type 0 where
  pub clean : IsClean kept
  pub items : AreItems (items_kept kept)
