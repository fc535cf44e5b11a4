-- What a write leaves of the items of a domain, told by what stands at each item afterwards.
use Rattle.std.specs.Prelude.{ℕ, List, Option, Some, None, fold, map, bytes_eq}
use Rattle.std.specs.List.{IsDistinct}
use Rattle.sdb_base.specs.Texts.{text_cmp}
use Rattle.sdb_action.specs.declared.request.DropItem.{DropItem}
use Rattle.sdb_action.specs.declared.request.DropPart.{DropPart}
use Rattle.sdb_action.specs.declared.request.PutItem.{PutItem}
use Rattle.sdb_action.specs.declared.request.PutPair.{PutPair}
use Rattle.sdb_pairs.specs.declared.pair.Pair.{Pair}
use Rattle.sdb_pairs.specs.Accounts.{ItemEntries, pairs_at}
use Rattle.sdb_pairs.specs.Changes.{item_with}
use Rattle.sdb_base.specs.Entries.{placed}
use Rattle.sdb_pairs.specs.Pairs.{Put, put, Part, whole_name, one_pair, del}

-- a pair of a put, and whether the old values of its name go
abbrev pub put_of : PutPair → Put
put_of p = record { pair = record { name = p.name; value = p.value }; replaces = p.replace }

-- a part of a deletion: one pair where it has a value, else every value of the name
abbrev pub part_with : List ℕ → Option (List ℕ) → Part
part_with name None = whole_name name
part_with name (Some value) = one_pair (record { name = name; value = value })

-- a part of a deletion
abbrev pub part_of : DropPart → Part
part_of part = part_with part.name part.value

-- what a write asks of one item: pairs to put, or parts to delete
pub data ItemWrite : Type 0 where
  put_into : (name : List ℕ) (puts : List Put) → ItemWrite
  delete_from : (name : List ℕ) (parts : List Part) → ItemWrite

-- the write of a put
abbrev pub put_write : PutItem → ItemWrite
put_write item = put_into item.name (map put_of item.pairs)

-- the write of a deletion
abbrev pub drop_write : DropItem → ItemWrite
drop_write item = delete_from item.name (map part_of item.parts)

-- the item that is written
abbrev pub name_of : ItemWrite → List ℕ
name_of (put_into name puts) = name
name_of (delete_from name parts) = name

-- the pairs that it leaves of the item's old pairs
abbrev pub left_of : ItemWrite → List Pair → List Pair
left_of (put_into name puts) old = put old puts
left_of (delete_from name parts) old = del old parts

-- the items with these pairs under the name; an item left without pairs isn't there
abbrev pub with_pairs : ItemEntries → List ℕ → List Pair → ItemEntries
with_pairs items name pairs = placed text_cmp items name (item_with pairs)

-- the items with one of them written, which has what its write leaves of the pairs that it had in the old items
abbrev pub item_written : ItemEntries → ItemEntries → ItemWrite → ItemEntries
item_written old items w = with_pairs items (name_of w) (left_of w (pairs_at old (name_of w)))

-- the items after the writes: each named item has what its write leaves of the pairs that it had before them all
abbrev pub items_written : ItemEntries → List ItemWrite → ItemEntries
items_written old writes = fold (item_written old) old writes

-- each of the writes names an item of its own
abbrev pub NamesApart : List ItemWrite → Type 0
NamesApart writes = IsDistinct bytes_eq (map name_of writes)
