-- The fields that rows give are of the rows' kinds.
use Rattle.std.proofs.Common.{◌≡◌, ℕ, zero, suc, ◌<◌, List, [], ◌∷◌, length, get_or, Some, None, Bool, true, false, cond, Result, Ok, Err, refl, subst, arith}
use Rattle.std.specs.Option.{IfSome}
use Rattle.std.specs.Result.{IfOk}
use Rattle.sdb_base.specs.Pairs.{NamedValues, value_of}
use Rattle.sdb_base.specs.Results.{before_rest, each}
use Rattle.sdb_tables.specs.Kinds.{fits}
use Rattle.sdb_tables.specs.Rules.{Field, Row, judged, field_by, fields_by}
use Rattle.sdb_tables.specs.declared.refusal.Refusal.{Refusal}
use Rattle.sdb_tables.specs.declared.refusal.Refusal.TheVariants.{InvalidParameterValue, MissingParameter}
use Rattle.sdb_action.specs.Tables.{present, text_at}

-- a field's text, where it is there, is of the row's kind
abbrev pub FitsRow : Row → Field → Type 0
FitsRow row field = IfSome field (λ text. fits row.kind text ≡ true)

judged-fits : (row : Row) (field : Field) → IfOk (judged row field) (FitsRow row)
judged-fits row None = either row.needed
  where
    either : (needed : Bool) → IfOk (cond needed (Err MissingParameter) (Ok None)) (FitsRow row)
    either true = tt
    either false = tt
judged-fits row (Some text) = either (fits row.kind text) refl
  where
    either : (fit : Bool) → fits row.kind text ≡ fit → IfOk (cond fit (Ok (Some text)) (Err InvalidParameterValue)) (FitsRow row)
    either true e = e
    either false e = tt

-- of each row's field so
abbrev FitRows : List Row → List Field → Type 0
FitRows rows fields = (i : ℕ) (row : Row) → i < length rows → FitsRow (get_or rows i row) (get_or fields i None)

before-fit : (row : Row) (rows : List Row) (first : Result Field Refusal) (rest : Result (List Field) Refusal) → IfOk first (FitsRow row) → IfOk rest (FitRows rows) → IfOk (before_rest first rest) (FitRows (row ∷ rows))
before-fit row rows (Err refusal) rest one others = tt
before-fit row rows (Ok field) (Err refusal) one others = tt
before-fit row rows (Ok field) (Ok fields) one others = at
  where
    at : FitRows (row ∷ rows) (field ∷ fields)
    at zero other within = one
    at (suc i) other within = others i other (omega arith)

fields-fit : (params : NamedValues) (rows : List Row) → IfOk (fields_by params rows) (FitRows rows)
unfolding fields_by
fields-fit params [] = λ i row within. absurd (omega arith)
fields-fit params (row ∷ rows) = before-fit row rows (field_by params row) (each (field_by params) rows) (judged-fits row (value_of params row.name)) (fields-fit params rows)

-- the field of a row
pub field_fits : (params : NamedValues) (rows : List Row) (fields : List Field) (i : ℕ) (row : Row) → i < length rows → fields_by params rows ≡ Ok fields → FitsRow (get_or rows i row) (get_or fields i None)
field_fits params rows fields i row within e = subst (λ r. IfOk r (FitRows rows)) e (fields-fit params rows) i row within

present-ok : (field : Field) (text : List ℕ) → present field ≡ Ok text → field ≡ Some text
present-ok None text e = absurd cc
present-ok (Some given) text e = cc

-- the text of a needed field
pub text_fits : (params : NamedValues) (rows : List Row) (fields : List Field) (i : ℕ) (row : Row) (text : List ℕ) → i < length rows → fields_by params rows ≡ Ok fields → text_at fields i ≡ Ok text → fits (get_or rows i row).kind text ≡ true
text_fits params rows fields i row text within e at =
    subst (FitsRow (get_or rows i row)) (present-ok (get_or fields i None) text at) (field_fits params rows fields i row within e)
