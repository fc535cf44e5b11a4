-- The bytes of a journal: its header, and records up to the first gate that isn't open.
use Rattle.std.specs.Prelude.{◌≡◌, ◌≢◌, ◌⊎◌, ℕ, ◌+◌, ◌/◌, ◌%◌, ◌^◌, ◌<◌, List, [], ◌∷◌, ◌++◌, length, slice_index}
use Rattle.sdb_format.specs.Numbers.{be32}
use Rattle.sdb_pairs.specs.declared.change.Change.{Change}
use Rattle.sdb_pairs.specs.Lawful.{AreLawfulChanges}
use Rattle.sdb_record.specs.Spelling.{spelling}

-- the changes of one record
abbrev pub Group : Type 0
Group = List Change

-- a file of this kind is closed: it is shorter than its header with a gate, or its first byte isn't 1
abbrev pub IsClosed : ℕ → List ℕ → Type 0
IsClosed least file = (length file < least) ⊎ (slice_index file 0 ≢ 1)

-- the eight bytes of a number below 2^64
abbrev pub be64 : ℕ → List ℕ
be64 n = be32 (n / 4294967296) ++ be32 (n % 4294967296)

-- the number of the record after the one with this number
abbrev pub next : ℕ → ℕ
next n = (n + 1) % 2 ^ 64

-- SDBJRNL1
abbrev pub magic : List ℕ
magic = 83 ∷ 68 ∷ 66 ∷ 74 ∷ 82 ∷ 78 ∷ 76 ∷ 49 ∷ []

-- the first 25 bytes of an open journal: the file's gate, the magic, the generation, and the number before its first record
unfoldable pub header : ℕ → ℕ → List ℕ
header generation first = 1 ∷ (magic ++ (be64 generation ++ be64 first))

-- a record behind its open gate: the body's length, the record's number, the body
abbrev pub entry : ℕ → List ℕ → List ℕ
entry n body = be32 (length body) ++ (be64 n ++ body)

-- records after the one with number n, each behind its open gate
abbrev pub blocks : ℕ → List (List ℕ) → List ℕ
blocks n [] = []
blocks n (body ∷ bodies) = 1 ∷ (entry (next n) body ++ blocks (next n) bodies)

-- the file is a journal with records of these bodies: what stands behind the gate that isn't open doesn't count
pub record Stands (generation first : ℕ) (bodies : List (List ℕ)) (file : List ℕ) : Type 0 where
  pub gate : ℕ
  pub rest : List ℕ
  pub file_is : file ≡ header generation first ++ (blocks first bodies ++ (gate ∷ rest))
  pub closed : gate ≢ 1

-- a body is exactly the bytes of these lawful changes, and its length stands in four bytes
pub record IsGroup (group : Group) (body : List ℕ) : Type 0 where
  pub lawful : AreLawfulChanges group
  pub body_is : body ≡ spelling group
  pub small : length body < 2 ^ 32

-- each body is that of its group
abbrev pub Spell : List Group → List (List ℕ) → Type 0
Spell [] [] = Unit {0}
Spell [] (body ∷ bodies) = ⊥
Spell (group ∷ groups) [] = ⊥
Spell (group ∷ groups) (body ∷ bodies) = IsGroup group body × Spell groups bodies

-- the file is a journal whose records have these groups of changes
pub record HasGroups (generation first : ℕ) (groups : List Group) (file : List ℕ) : Type 0 where
  pub bodies : List (List ℕ)
  pub spelled : Spell groups bodies
  pub stands : Stands generation first bodies file
  pub generation_fits : generation < 2 ^ 64
  pub first_fits : first < 2 ^ 64

-- the number of the last record
abbrev pub last : ℕ → List Group → ℕ
last n [] = n
last n (group ∷ groups) = last (next n) groups

-- the same, where a journal that isn't there yet has no records
abbrev pub JournalHas : ℕ → ℕ → List Group → List ℕ → Type 0
JournalHas generation first groups file =
    (IsClosed 26 file × (generation ≡ 0) × (first ≡ 0) × (groups ≡ [])) ⊎ HasGroups generation first groups file
