-- How many items of a domain have each attribute name, and how steps on the counts are taken back.
use Rattle.std.specs.Prelude.{◌≡◌, ℕ, zero, suc, ◌+◌, ◌<◌, Bool, false, not, if◌then◌else◌, List, [], ◌∷◌, length, filter, Option, Some, None, unwrap_or}
use Rattle.std.specs.List.{sum_by, list_any}
use Rattle.std.specs.Map.{keys_of}
use Rattle.std.specs.BTreeMap.{is_at}
use Rattle.sdb_base.specs.Texts.{text_cmp}
use Rattle.sdb_base.specs.Entries.{found, IsRising}
use Rattle.sdb_pairs.specs.declared.pair.Pair.{Pair}
use Rattle.sdb_pairs.specs.Pairs.{is_named}
use Rattle.sdb_domain.specs.declared.names.Names.{Names}
use Rattle.sdb_domain.specs.declared.names.NameWas.{NameWas}
use Rattle.sdb_domain.specs.declared.names.Side.{Side}
use Rattle.sdb_domain.specs.declared.names.Side.TheVariants.{Old, New, Both}
use Rattle.sdb_domain.specs.Keyed.{seen, back}

-- attribute names with the number of items that have them
abbrev pub NameCounts : Type 0
NameCounts = List (List ℕ × ℕ)

-- the number of items that have the name
abbrev pub count_of : NameCounts → List ℕ → ℕ
count_of counts name = unwrap_or (found text_cmp counts name) 0

-- 1 where one of the pairs has the name, else 0
abbrev pub presence : List ℕ → List Pair → ℕ
presence name pairs = if list_any (is_named name) pairs then 1 else 0

-- a count of 0 is hidden
abbrev pub counted : ℕ → Option ℕ
counted zero = None
counted (suc n) = Some (suc n)

-- the names that have items
abbrev pub names_counted : NameCounts → List (List ℕ)
names_counted counts = keys_of (seen counted counts)

-- what a name of that count adds
abbrev pub counted_weight : ℕ → ℕ → ℕ
counted_weight zero weight = 0
counted_weight (suc n) weight = weight

-- no names
abbrev pub no_names : Names
no_names = record { counts = []; number = 0; bytes = 0 }

-- the sums beside the counts are those of the names that have items
pub record IsTallied (names : Names) : Type 0 where
  pub rise : IsRising text_cmp names.counts
  pub number : names.number ≡ length (names_counted names.counts)
  pub bytes : names.bytes ≡ sum_by length (names_counted names.counts)

-- ---- one walk over two lists of pairs

-- the name of the first pair
abbrev pub first_name : List Pair → List ℕ
first_name [] = []
first_name (p ∷ ps) = p.name

-- the pairs of other names than the first one's
abbrev pub past_first : List Pair → List Pair
past_first pairs = filter (λ p. not (is_named (first_name pairs) p)) pairs

-- the first name of the one list, of the other, or of both
abbrev pub IsSide : List Pair → List Pair → Option Side → Type 0
IsSide old new None = (old ≡ []) × (new ≡ [])
IsSide old new (Some Old) = 0 < length old
IsSide old new (Some New) = 0 < length new
IsSide old new (Some Both) = (0 < length old) × (0 < length new) × (first_name old ≡ first_name new)

-- name by name, the counts once the new pairs of an item stand in the place of the old ones
abbrev pub Recounts : List Pair → List Pair → NameCounts → NameCounts → Type 0
Recounts old new was now = (name : List ℕ) → count_of now name + presence name old ≡ count_of was name + presence name new

-- ---- taking back

-- the counts as they were before a step on a name
abbrev pub name_undone : Names → NameWas → Names
name_undone names was = record { counts = back names.counts was.name was.count; number = was.number; bytes = was.bytes }

-- whether a step of the log was on the name
abbrev pub is_logged : List ℕ → List NameWas → Bool
is_logged name log = list_any (λ was. is_at (text_cmp name) was.name) log

-- nothing changed under names that the log doesn't have
abbrev pub ChangesLogged : NameCounts → NameCounts → List NameWas → Type 0
ChangesLogged old new log = (name : List ℕ) → is_logged name log ≡ false → found text_cmp new name ≡ found text_cmp old name

-- no count changed, and no count of 0 is left under a name of the log
pub record SweepsNames (old new : Names) (log : List NameWas) : Type 0 where
  pub tallied : IsTallied old → IsTallied new
  pub same : (name : List ℕ) → count_of new.counts name ≡ count_of old.counts name
  pub swept : (name : List ℕ) → found text_cmp new.counts name ≡ Some 0 → (found text_cmp old.counts name ≡ Some 0) × (is_logged name log ≡ false)
