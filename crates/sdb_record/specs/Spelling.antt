-- The bytes of changes. Numbers stand with their highest byte first.
use Rattle.std.specs.Prelude.{ℕ, List, [], ◌∷◌, ◌++◌, length}
use Rattle.std.specs.List.{flat_map}
use Rattle.sdb_format.specs.Numbers.{be16, be32}
use Rattle.sdb_format.specs.Letters.{text_bytes}
use Rattle.sdb_pairs.specs.declared.pair.Pair.{Pair}
use Rattle.sdb_pairs.specs.declared.op.Op.{Op}
use Rattle.sdb_pairs.specs.declared.op.Op.TheVariants.{AddPair, DropPair, DropName, DropAll}
use Rattle.sdb_pairs.specs.declared.change.Change.{Change}
use Rattle.sdb_pairs.specs.declared.change.Change.TheVariants.{MakeDomain, DropDomain, Edit}

-- a domain's name behind its length of one byte
abbrev pub domain_bytes : List ℕ → List ℕ
domain_bytes domain = length domain ∷ domain

-- an account's number and a domain's name
abbrev pub place_bytes : ℕ → List ℕ → List ℕ
place_bytes account domain = account ∷ domain_bytes domain

-- a name and a value
abbrev pub pair_bytes : Pair → List ℕ
pair_bytes pair = text_bytes pair.name ++ text_bytes pair.value

-- an operation's tag
abbrev pub op_tag : Op → ℕ
op_tag (AddPair pair) = 0
op_tag (DropPair pair) = 1
op_tag (DropName name) = 2
op_tag DropAll = 3

-- what follows an operation's tag
abbrev pub op_rest : Op → List ℕ
op_rest (AddPair pair) = pair_bytes pair
op_rest (DropPair pair) = pair_bytes pair
op_rest (DropName name) = text_bytes name
op_rest DropAll = []

-- one operation
abbrev pub op_bytes : Op → List ℕ
op_bytes op = op_tag op ∷ op_rest op

-- operations behind their number
abbrev pub ops_bytes : List Op → List ℕ
ops_bytes ops = be16 (length ops) ++ flat_map op_bytes ops

-- a change's tag
abbrev pub change_tag : Change → ℕ
change_tag (MakeDomain account domain) = 0
change_tag (DropDomain account domain) = 1
change_tag (Edit account domain item ops) = 2

-- what follows a change's tag
abbrev pub change_rest : Change → List ℕ
change_rest (MakeDomain account domain) = place_bytes account domain
change_rest (DropDomain account domain) = place_bytes account domain
change_rest (Edit account domain item ops) = place_bytes account domain ++ (text_bytes item ++ ops_bytes ops)

-- one change
abbrev pub change_bytes : Change → List ℕ
change_bytes change = change_tag change ∷ change_rest change

-- changes behind their number
abbrev pub spelling : List Change → List ℕ
spelling changes = be32 (length changes) ++ flat_map change_bytes changes
