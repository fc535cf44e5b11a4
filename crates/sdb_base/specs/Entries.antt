-- Entries under keys in rising order: what stands under a key, and what an entry set or taken out leaves.
use Rattle.std.specs.Prelude.{List, Option, None, Some}
use Rattle.std.specs.declared.cmp.Ordering.{Ordering}
use Rattle.std.specs.Map.{lookup, remove_entry, keys_of}
use Rattle.std.specs.BTreeMap.{is_at, insert_entry}
use Rattle.std.specs.List.Sorted.{IsStrictlySortedBy}

module _ {K X : Type 0} (cmp : K → K → Ordering) where
  -- what stands under the key
  abbrev pub found : List (K × X) → K → Option X
  found es k = lookup (is_at (cmp k)) es

  -- the entries with that under the key: `None` takes the entry out
  abbrev pub placed : List (K × X) → K → Option X → List (K × X)
  placed es k None = remove_entry (is_at (cmp k)) es
  placed es k (Some x) = insert_entry cmp es k x

  -- the keys strictly rise
  abbrev pub IsRising : List (K × X) → Type 0
  IsRising es = IsStrictlySortedBy cmp (keys_of es)
