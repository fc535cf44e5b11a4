-- The changes of a write: a function of the account and the request alone.
use Rattle.std.specs.Prelude.{ℕ, not, List, [], ◌∷◌, ◌++◌, filter, map, bytes_eq, Result, Ok, Err}
use Rattle.sdb_action.specs.declared.request.Request.{Request}
use Rattle.sdb_action.specs.declared.request.Request.TheVariants.{CreateDomain, DeleteDomain, Put, BatchPut, Delete, BatchDelete}
use Rattle.sdb_pairs.specs.Accounts.{DomainEntries}
use Rattle.sdb_pairs.specs.Laws.{del_ops}
use Rattle.sdb_pairs.specs.Pairs as pairs
use Rattle.sdb_pairs.specs.declared.change.Change.{Change}
use Rattle.sdb_pairs.specs.declared.change.Change.TheVariants.{MakeDomain, DropDomain, Edit}
use Rattle.sdb_pairs.specs.declared.op.Op.{Op}
use Rattle.sdb_pairs.specs.declared.op.Op.TheVariants.{AddPair, DropName}
use Rattle.sdb_tables.specs.declared.refusal.Refusal.{Refusal}
use Rattle.sdb_write.specs.ItemWrites.{ItemWrite, put_into, delete_from, put_write, drop_write, name_of}
use Rattle.sdb_write.specs.Writes.{write}

-- each text once, at the place where it first stands
abbrev pub each_once : List (List ℕ) → List (List ℕ)
each_once [] = []
each_once (text ∷ texts) = text ∷ filter (λ other. not (bytes_eq other text)) (each_once texts)

-- the names that have a Replace, by first appearance
abbrev pub replaced_names : List pairs.Put → List (List ℕ)
replaced_names puts = each_once (map (λ p. p.pair.name) (filter (λ p. p.replaces) puts))

-- the operations of a put: the names with a Replace are dropped, then every pair is added
abbrev pub put_ops : List pairs.Put → List Op
put_ops puts = map DropName (replaced_names puts) ++ map (λ p. AddPair p.pair) puts

-- the operations of a write of one item
abbrev pub ops_of : ItemWrite → List Op
ops_of (put_into name puts) = put_ops puts
ops_of (delete_from name parts) = del_ops parts

-- the edit of an item
abbrev pub edit_of : ℕ → List ℕ → ItemWrite → Change
edit_of account domain w = Edit account domain (name_of w) (ops_of w)

-- the changes of a request; one that reads has none
abbrev pub changes : ℕ → Request → List Change
changes account (CreateDomain domain) = MakeDomain account domain ∷ []
changes account (DeleteDomain domain) = DropDomain account domain ∷ []
changes account (Put domain item expect) = edit_of account domain (put_write item) ∷ []
changes account (BatchPut domain items) = map (edit_of account domain) (map put_write items)
changes account (Delete domain item expect) = edit_of account domain (drop_write item) ∷ []
changes account (BatchDelete domain items) = map (edit_of account domain) (map drop_write items)
changes account _ = []

-- the changes where the write gives accounts, else its refusal
abbrev pub in_place_of : Result DomainEntries Refusal → List Change → Result (List Change) Refusal
in_place_of (Ok accounts) cs = Ok cs
in_place_of (Err refusal) cs = Err refusal

-- what is decided of a request: exactly its changes where the write gives accounts, else exactly its refusal
abbrev pub decision : DomainEntries → ℕ → Request → Result (List Change) Refusal
decision accounts account request = in_place_of (write accounts account request) (changes account request)
