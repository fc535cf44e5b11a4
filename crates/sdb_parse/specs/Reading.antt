-- How terms are read from the front: what a reading gives, and the terms that are left.
use Rattle.std.specs.Prelude.{◌≡◌, ℕ, zero, suc, Bool, true, false, not, ◌&&◌, List, [], ◌∷◌, drop, Option, Some, None, Result, Ok, Err, length, if◌then◌else◌}
use Rattle.sdb_parse.specs.declared.fault.Fault.{Fault}
use Rattle.sdb_parse.specs.declared.fault.Fault.TheVariants as fault
use Rattle.sdb_parse.specs.declared.sign.Sign.{Sign}
use Rattle.sdb_parse.specs.declared.sign.Sign.TheVariants as sign
use Rattle.sdb_parse.specs.declared.term.Term.{Term}
use Rattle.sdb_base.specs.Names.{is_name}
use Rattle.sdb_parse.specs.Signs.{may_name, same}

-- the term is there and has that sign
abbrev pub has_sign : Option Term → Sign → Bool
has_sign None s = false
has_sign (Some t) s = same t.sign s

-- whether the next term has that sign
unfoldable pub sees : Sign → List Term → Bool
sees s [] = false
sees s (t ∷ ts) = same t.sign s

-- whether the next term has that sign and `(` follows it
unfoldable pub sees_call : Sign → List Term → Bool
sees_call s [] = false
sees_call s (t ∷ ts) = same t.sign s && sees sign.Open ts

-- whether no term is left
unfoldable pub nothing_left : List Term → Bool
nothing_left [] = true
nothing_left (t ∷ ts) = false

-- a reader gives nothing, or what it read and the terms that are left
abbrev pub Reader : Type 0 → Type 0
Reader A = List Term → Option (A × List Term)

-- what a call read: it fails where the reader gives nothing
abbrev pub Reads : {A : Type 0} → Option (A × List Term) → Result A Fault → List Term → Type 0
Reads got (Ok value) after = got ≡ Some (value, after)
Reads got (Err e) after = e ≡ fault.Syntax → got ≡ None

-- one reading after another
abbrev pub chain : {A B : Type 0} → Option (A × List Term) → (A → Reader B) → Option (B × List Term)
chain None next = None
chain (Some read) next = next read.0 read.1

-- a term with that sign
unfoldable pub expect : Sign → Reader (Unit {0})
expect s ts = if sees s ts then Some (tt, drop 1 ts) else None

-- the text of a term with that sign
unfoldable pub text_at : Sign → Reader (List ℕ)
text_at s [] = None
text_at s (t ∷ ts) = if same t.sign s then Some (t.text, ts) else None

-- a name: a word that isn't a function with its `(`, or a name between backticks
unfoldable pub name_at : Reader (List ℕ)
name_at [] = None
name_at (t ∷ ts) = if may_name t.sign && not (not (same t.sign sign.Name) && sees sign.Open ts) then Some (t.text, ts) else None

-- an attribute's name
unfoldable pub attr_at : Reader (List ℕ)
attr_at ts = chain (name_at ts) (λ n rest. if is_name n then Some (n, rest) else None)

-- `itemName()`
unfoldable pub item_name_at : Reader (Unit {0})
item_name_at ts = chain (expect sign.ItemName ts) (λ _ a. chain (expect sign.Open a) (λ _ b. expect sign.Close b))

-- more members, each after that sign: as many as there are, by at most so many turns
unfoldable pub more : {A : Type 0} → ℕ → Sign → Reader A → Reader (List A)
more zero s item ts = if sees s ts then None else Some ([], ts)
more (suc n) s item ts =
    if sees s ts then chain (item (drop 1 ts)) (λ one mid. chain (more n s item mid) (λ others rest. Some (one ∷ others, rest))) else Some ([], ts)

-- members with that sign between them
unfoldable pub listed : {A : Type 0} → Sign → Reader A → Reader (List A)
listed s item ts = chain (item ts) (λ one mid. chain (more (length mid) s item mid) (λ others rest. Some (one ∷ others, rest)))
