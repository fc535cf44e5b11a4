-- The entries of a numbered list: those that some parameter is a part of, in number order.
use Rattle.std.specs.Prelude.{ℕ, List, [], ◌∷◌, map, Option, Some, None, ◌==◌, option_map, if◌then◌else◌}
use Rattle.std.specs.List.{filter_map}
use Rattle.std.specs.Ordering.{nat_cmp}
use Rattle.std.specs.BTreeSet.{insert_key}
use Rattle.sdb_base.specs.Pairs.{NamedValues}
use Rattle.sdb_action.specs.declared.numbers.EntryKind.{EntryKind}
use Rattle.sdb_action.specs.Numbers.{Part, part_of}

-- numbers in rising order, each once
abbrev pub rising : List ℕ → List ℕ
rising [] = []
rising (n ∷ ns) = insert_key nat_cmp (rising ns) n

-- the place of the entry that a parameter is a part of
abbrev pub place_in : EntryKind → (List ℕ × List ℕ) → Option ℕ
place_in kind param = option_map (λ part. part.0) (part_of kind param.0)

-- the places of the entries that are there
abbrev pub places : EntryKind → NamedValues → List ℕ
places kind params = rising (filter_map (place_in kind) params)

-- a part's name with its value, where it is a part of the entry at that place
abbrev pub value_at : ℕ → Option Part → List ℕ → Option (List ℕ × List ℕ)
value_at place None value = None
value_at place (Some part) value = if part.0 == place then Some (part.1, value) else None

-- the part that a parameter gives to the entry at a place
abbrev pub part_in : EntryKind → ℕ → (List ℕ × List ℕ) → Option (List ℕ × List ℕ)
part_in kind place param = value_at place (part_of kind param.0) param.1

-- the parts of the entry at a place, with their values
abbrev pub parts_at : EntryKind → NamedValues → ℕ → NamedValues
parts_at kind params place = filter_map (part_in kind place) params

-- the parts of each entry
unfoldable pub entries : EntryKind → NamedValues → List NamedValues
entries kind params = map (parts_at kind params) (places kind params)

-- the entry at a place is there where it has a part
abbrev pub there : NamedValues → Option NamedValues
there [] = None
there (part ∷ parts) = Some (part ∷ parts)

-- the entry at a place, where it has a part
abbrev pub entry_at : EntryKind → NamedValues → ℕ → Option NamedValues
entry_at kind params place = there (parts_at kind params place)
