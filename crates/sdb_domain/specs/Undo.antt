-- A domain that is open to edits, and how these are taken back.
use Rattle.std.specs.Prelude.{◌≡◌, ℕ, ◌+◌, ◌≤◌, Bool, true, false, ◌&&◌, Decides, List, [], ◌∷◌, length, Option, Some, None, unwrap_or}
use Rattle.std.specs.List.{list_any}
use Rattle.std.specs.Map.{remove_entry, set_value}
use Rattle.std.specs.BTreeMap.{is_at, insert_entry}
use Rattle.sdb_base.specs.Texts.{text_cmp}
use Rattle.sdb_base.specs.Entries.{found}
use Rattle.sdb_pairs.specs.declared.pair.Pair.{Pair}
use Rattle.sdb_pairs.specs.Accounts.{ItemEntries}
use Rattle.sdb_pairs.specs.Parts.{ExchangeKept, without, exchanged, taken_back}
use Rattle.sdb_domain.specs.declared.held.RowWas.{RowWas}
use Rattle.sdb_domain.specs.Held.{Kept, IsWhole}
use Rattle.sdb_domain.specs.Keyed.{unwound, IsSwept}
use Rattle.sdb_domain.specs.Names.{name_undone, is_logged, ChangesLogged}

-- pairs of a row that is there are taken out and others put in
pub record RowExchanged (old new : ItemEntries) (name : List ℕ) (out put : List Pair) (exchange : ExchangeKept) : Type 0 where
  pub row : List Pair
  pub was_there : found text_cmp old name ≡ Some row
  pub made : new ≡ insert_entry text_cmp old name (exchanged row out put)
  pub out_is : exchange.out ≡ out
  pub put_is : exchange.put ≡ put
  pub room : length out + length row ≤ exchange.room

-- an exchange of a row's pairs, or a row that is made where none was there
abbrev pub RowExchanges : ItemEntries → ItemEntries → List ℕ → List Pair → List Pair → Option ExchangeKept → Type 0
RowExchanges old new name out put None = (found text_cmp old name ≡ None) × (new ≡ insert_entry text_cmp old name put)
RowExchanges old new name out put (Some exchange) = RowExchanged old new name out put exchange

-- the rows with an exchange of a row's pairs taken back; a row that was made goes
abbrev pub row_back : ItemEntries → List ℕ → Option ExchangeKept → ItemEntries
row_back rows name None = remove_entry (is_at (text_cmp name)) rows
row_back rows name (Some exchange) = set_value (is_at (text_cmp name)) rows (taken_back (unwrap_or (found text_cmp rows name) []) exchange)

-- there is room to take an exchange back
abbrev pub HasRoom : Option (List Pair) → Option ExchangeKept → Type 0
HasRoom row None = Unit {0}
HasRoom None (Some exchange) = Unit {0}
HasRoom (Some pairs) (Some exchange) = length exchange.out + length (without pairs exchange.put) ≤ exchange.room

-- there is room to take an edit of a row back
abbrev pub FitsRow : Kept → RowWas → Type 0
FitsRow kept was = HasRoom (found text_cmp kept.rows was.name) was.exchange

-- a domain once an edit of a row is taken back
abbrev pub row_undone : Kept → RowWas → Kept
row_undone kept was = record { rows = row_back kept.rows was.name was.exchange; names = unwound name_undone kept.names was.names.items; sums = was.sums }

-- whether an edit emptied the row
abbrev pub empties : List ℕ → RowWas → Bool
empties name was = is_at (text_cmp name) was.name && was.emptied

-- nothing changed but the row, which is without pairs just where that is noted, and counts of names that are logged
pub record ChangesOnly (old new : Kept) (was : RowWas) : Type 0 where
  pub emptied : Decides was.emptied (found text_cmp new.rows was.name ≡ Some [])
  pub rows : (name : List ℕ) → is_at (text_cmp name) was.name ≡ false → found text_cmp new.rows name ≡ found text_cmp old.rows name
  pub names : ChangesLogged old.names.counts new.names.counts was.names.items

-- a row that an edit emptied goes where it is without pairs still; no other row changes
abbrev pub SweepsRow : Bool → ItemEntries → ItemEntries → List ℕ → Type 0
SweepsRow true old new name = IsSwept [] old new name
SweepsRow false old new name = new ≡ old

-- no row without pairs is left that an edit emptied, and no name without items that it was about
pub record Sweeps (old new : Kept) (was : RowWas) : Type 0 where
  pub rows : (name : List ℕ) → found text_cmp new.rows name ≡ Some [] → (found text_cmp old.rows name ≡ Some []) × (empties name was ≡ false)
  pub names : (name : List ℕ) → found text_cmp new.names.counts name ≡ Some 0 → (found text_cmp old.names.counts name ≡ Some 0) × (is_logged name was.names.items ≡ false)

-- what is kept of a domain, with what takes its edits back, the newest last
pub record Opening : Type 0 where
  pub kept : Kept
  pub log : List RowWas

-- a domain that was just opened
abbrev pub opening_of : Kept → Opening
opening_of kept = record { kept = kept; log = [] }

-- whether an edit of the log emptied the row
abbrev pub row_emptied : List ℕ → List RowWas → Bool
row_emptied name log = list_any (empties name) log

-- whether an edit of the log changed the count of the attribute name
abbrev pub name_logged : List ℕ → List RowWas → Bool
name_logged name log = list_any (λ was. is_logged name was.names.items) log

-- what is hidden was left so by an edit of the log
pub record Covers (kept : Kept) (log : List RowWas) : Type 0 where
  pub rows : (name : List ℕ) → found text_cmp kept.rows name ≡ Some [] → row_emptied name log ≡ true
  pub names : (name : List ℕ) → found text_cmp kept.names.counts name ≡ Some 0 → name_logged name log ≡ true

-- what is hidden of an open domain was left so by an edit of its log
abbrev pub IsCovered : Opening → Type 0
IsCovered o = Covers o.kept o.log

-- the domain before the newest edit
abbrev pub before_last : List RowWas → Kept → Kept
before_last [] kept = kept
before_last (was ∷ []) kept = row_undone kept was
before_last (was ∷ next ∷ more) kept = before_last (next ∷ more) kept

-- there is room to take the newest edit back
abbrev pub FitsLast : List RowWas → Kept → Type 0
FitsLast [] kept = Unit {0}
FitsLast (was ∷ []) kept = FitsRow kept was
FitsLast (was ∷ next ∷ more) kept = FitsLast (next ∷ more) kept

-- the log without it
abbrev pub without_last : List RowWas → List RowWas
without_last [] = []
without_last (was ∷ []) = []
without_last (was ∷ next ∷ more) = was ∷ without_last (next ∷ more)

-- the newest edit taken back
abbrev pub last_undone : Opening → Opening
last_undone o = record { kept = before_last o.log o.kept; log = without_last o.log }

-- what that needs
abbrev pub CanUndoLast : Opening → Type 0
CanUndoLast o = IsWhole (last_undone o).kept × IsCovered (last_undone o) × FitsLast o.log o.kept
