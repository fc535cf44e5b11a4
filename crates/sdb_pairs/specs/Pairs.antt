-- The pairs of an item: a rising list of names and values, and what the operations leave of it.
use Rattle.std.specs.Prelude.{ℕ, Bool, not, ◌&&◌, List, [], ◌∷◌, ◌++◌, bytes_eq, fold, filter, map}
use Rattle.std.specs.declared.cmp.Ordering.{Ordering}
use Rattle.std.specs.Ordering.{ordering_then}
use Rattle.std.specs.BTreeSet.{insert_key}
use Rattle.std.specs.List.{list_any}
use Rattle.sdb_base.specs.Texts.{text_cmp}
use Rattle.sdb_pairs.specs.declared.pair.Pair.{Pair}
use Rattle.sdb_pairs.specs.declared.op.Op.{Op}
use Rattle.sdb_pairs.specs.declared.op.Op.TheVariants.{AddPair, DropPair, DropName, DropAll}

-- pairs stand by name and then by value, each by its bytes
abbrev pub pair_cmp : Pair → Pair → Ordering
pair_cmp a b = ordering_then (text_cmp a.name b.name) (text_cmp a.value b.value)

-- whether the pairs have the same name and the same value
abbrev pub pair_eq : Pair → Pair → Bool
pair_eq a b = bytes_eq a.name b.name && bytes_eq a.value b.value

-- whether the pair has that name
abbrev pub is_named : List ℕ → Pair → Bool
is_named name p = bytes_eq p.name name

-- the part with that name
abbrev pub part_named : List ℕ → List Pair → List Pair
part_named name pairs = filter (is_named name) pairs

-- the pairs with one more, at its place in the order, unless it is there
abbrev pub with_pair : List Pair → Pair → List Pair
with_pair pairs p = insert_key pair_cmp pairs p

-- the pairs after one operation
abbrev pub after_op : List Pair → Op → List Pair
after_op pairs (AddPair p) = with_pair pairs p
after_op pairs (DropPair p) = filter (λ q. not (pair_eq q p)) pairs
after_op pairs (DropName name) = filter (λ q. not (is_named name q)) pairs
after_op pairs DropAll = []

-- the pairs after the operations in order
abbrev pub merged : List Pair → List Op → List Pair
merged pairs ops = fold after_op pairs ops

-- the rising list of the pairs, whatever order they come in
abbrev pub risen : List Pair → List Pair
risen pairs = fold with_pair [] pairs

-- a pair to put, and whether the old values of its name go
pub record Put : Type 0 where
  pub pair : Pair
  pub replaces : Bool

-- whether one of the puts says that the old values of the name go
abbrev pub is_replaced : List Put → List ℕ → Bool
is_replaced puts name = list_any (λ p. p.replaces && is_named name p.pair) puts

-- the old pairs whose name no put replaces, together with every pair put
abbrev pub put : List Pair → List Put → List Pair
put old puts = risen (filter (λ q. not (is_replaced puts q.name)) old ++ map (λ p. p.pair) puts)

-- a part to delete: every value of a name, or one pair
pub data Part : Type 0 where
  whole_name : List ℕ → Part
  one_pair : Pair → Part

-- whether the part names the pair
abbrev pub names_pair : Pair → Part → Bool
names_pair q (whole_name name) = is_named name q
names_pair q (one_pair p) = pair_eq q p

-- nothing without parts, else the old pairs that no part names
abbrev pub del : List Pair → List Part → List Pair
del old [] = []
del old (part ∷ parts) = filter (λ q. not (list_any (names_pair q) (part ∷ parts))) old
