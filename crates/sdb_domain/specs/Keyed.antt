-- Entries that hide some of their values, and entries taken back.
use Rattle.std.specs.Prelude.{◌≡◌, ℕ, List, [], ◌∷◌, Option, None, Some}
use Rattle.std.specs.Borrow.{Bor}
use Rattle.std.specs.declared.ops.Bound.{Bound}
use Rattle.std.specs.declared.ops.Bound.TheVariants.{Excluded, Unbounded}
use Rattle.std.specs.Map.{remove_entry, set_value}
use Rattle.std.specs.BTreeMap.{is_at}
use Rattle.sdb_base.specs.Texts.{text_cmp}
use Rattle.sdb_base.specs.Entries.{found}

-- an entry in front, where there is a value for it
abbrev pub with_shown : {Y : Type 0} → List ℕ → Option Y → List (List ℕ × Y) → List (List ℕ × Y)
with_shown key None rest = rest
with_shown key (Some y) rest = (key, y) ∷ rest

-- the entries that are seen, each with what is seen of its value
abbrev pub seen : {X Y : Type 0} → (X → Option Y) → List (List ℕ × X) → List (List ℕ × Y)
seen see [] = []
seen see (e ∷ es) = with_shown e.0 (see e.1) (seen see es)

-- the entries with what stood under the key before: where nothing stood there, the entry goes
abbrev pub back : {X : Type 0} → List (List ℕ × X) → List ℕ → Option X → List (List ℕ × X)
back es key None = remove_entry (is_at (text_cmp key)) es
back es key (Some was) = set_value (is_at (text_cmp key)) es was

-- the entries are the same and the key has no hidden value, or an entry of that value went
pub data IsSwept {X : Type 0} (hidden : X) (old new : List (List ℕ × X)) (key : List ℕ) : Type 0 where
  unchanged : new ≡ old → (found text_cmp old key ≡ Some hidden → ⊥) → IsSwept hidden old new key
  removed : found text_cmp old key ≡ Some hidden → new ≡ remove_entry (is_at (text_cmp key)) old → IsSwept hidden old new key

-- a state once the steps of a log are taken back, the newest first; the newest stands last
abbrev pub unwound : {S U : Type 0} → (S → U → S) → S → List U → S
unwound undone state [] = state
unwound undone state (step ∷ steps) = undone (unwound undone state steps) step

-- the bound from which the keys above the given one begin
abbrev pub bound_after : Option (Bor (List ℕ)) → Bound (Bor (List ℕ))
bound_after None = Unbounded
bound_after (Some key) = Excluded key
