-- The part of an item that operations may change: the pairs under the names that they name.
use Rattle.std.specs.Prelude.{◌≡◌, ℕ, Bool, true, not, List, [], Option, None, Some, bytes_eq, fold, filter}
use Rattle.std.specs.List.{list_any}
use Rattle.sdb_pairs.specs.declared.pair.Pair.{Pair}
use Rattle.sdb_pairs.specs.declared.op.Op.{Op}
use Rattle.sdb_pairs.specs.declared.op.Op.TheVariants.{AddPair, DropPair, DropName, DropAll}
use Rattle.sdb_pairs.specs.Pairs.{pair_eq, part_named, with_pair}

-- the name whose pairs the operation may change; `None` where it may change all
abbrev pub name_of : Op → Option (List ℕ)
name_of (AddPair p) = Some p.name
name_of (DropPair p) = Some p.name
name_of (DropName name) = Some name
name_of DropAll = None

-- whether a name is the given one, or all are given
abbrev pub is_given : List ℕ → Option (List ℕ) → Bool
is_given name None = true
is_given name (Some given) = bytes_eq name given

-- whether the operation names the name
abbrev pub touches : List ℕ → Op → Bool
touches name op = is_given name (name_of op)

-- whether one of the operations does
abbrev pub is_touched : List Op → List ℕ → Bool
is_touched ops name = list_any (touches name) ops

-- the pairs under the given name, or all
abbrev pub part_given : Option (List ℕ) → List Pair → List Pair
part_given given pairs = filter (λ q. is_given q.name given) pairs

-- the pairs under the names that the operations name
abbrev pub touched : List Pair → List Op → List Pair
touched pairs ops = filter (λ q. is_touched ops q.name) pairs

-- what one operation adds to a part: the pairs that it touches, which are there where one of them is
pub data AddsTouched (old new item : List Pair) (op : Op) : Type 0 where
  added : new ≡ fold with_pair old (part_given (name_of op) item) → AddsTouched old new item op
  there : (name : List ℕ) → name_of op ≡ Some name → (part_named name old ≡ [] → ⊥) → new ≡ old → AddsTouched old new item op

-- the pairs that aren't among others
abbrev pub without : List Pair → List Pair → List Pair
without pairs out = filter (λ q. not (list_any (pair_eq q) out)) pairs

-- the pairs once some are taken out and others put in
abbrev pub exchanged : List Pair → List Pair → List Pair → List Pair
exchanged pairs out put = fold with_pair (without pairs out) put

-- what takes an exchange back: the pairs that were taken out and those that were put in, and for how many pairs there is room
pub record ExchangeKept : Type 0 where
  pub out : List Pair
  pub put : List Pair
  pub room : ℕ

-- the pairs once the exchange is taken back
abbrev pub taken_back : List Pair → ExchangeKept → List Pair
taken_back pairs exchange = fold with_pair exchange.out (without pairs exchange.put)
