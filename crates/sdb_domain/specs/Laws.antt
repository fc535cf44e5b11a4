-- What holds of every walk over items.
use Rattle.std.specs.Prelude.{◌≡◌, ℕ, List, [], ◌∷◌, Option, None, Some}
use Rattle.sdb_pairs.specs.declared.pair.Pair.{Pair}
use Rattle.sdb_pairs.specs.Accounts.{ItemEntries, AreItems}
use Rattle.sdb_domain.specs.LookUps.{entries_after, least_after}

-- the items that are met one after the other, from the least name above the given one, until there is no more
pub data Walks (items : ItemEntries) : Option (List ℕ) → ItemEntries → Type 0 where
  ended : (after : Option (List ℕ)) → least_after items after ≡ None → Walks items after []
  goes_on : (after : Option (List ℕ)) (item : List ℕ × List Pair) (rest : ItemEntries) → least_after items after ≡ Some item
      → Walks items (Some item.0) rest → Walks items after (item ∷ rest)

-- a walk meets each item above the given name, in order; from the beginning it meets all
abbrev pub WalksGiveAll : Type 0
WalksGiveAll = (items : ItemEntries) (after : Option (List ℕ)) (walked : ItemEntries) → AreItems items → Walks items after walked → walked ≡ entries_after items after

-- one step of a walk: where the items above a name are one and others, those above that one's name are the others
abbrev pub EntriesBehind : Type 0
EntriesBehind = (items : ItemEntries) (after : Option (List ℕ)) (item : List ℕ × List Pair) (rest : ItemEntries) → AreItems items
    → entries_after items after ≡ item ∷ rest → entries_after items (Some item.0) ≡ rest
