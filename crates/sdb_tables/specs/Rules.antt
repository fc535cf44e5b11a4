-- The fields that rows of rules read from parameters, or the refusal of the first row that fails.
use Rattle.std.specs.Prelude.{ℕ, List, Bool, true, false, Option, Some, None, Result, Ok, Err, if◌then◌else◌}
use Rattle.sdb_base.specs.Pairs.{NamedValues, value_of}
use Rattle.sdb_base.specs.Results.{each}
use Rattle.sdb_tables.specs.declared.kind.FieldKind.{FieldKind}
use Rattle.sdb_tables.specs.declared.refusal.Refusal.{Refusal}
use Rattle.sdb_tables.specs.declared.refusal.Refusal.TheVariants.{InvalidParameterValue, MissingParameter}
use Rattle.sdb_tables.specs.declared.rules.ParamRow.{ParamRow}
use Rattle.sdb_tables.specs.Kinds.{fits}

-- a row of a table: the parameter's name, what its value has to be, and whether it has to be there
pub record Row : Type 0 where
  pub name : List ℕ
  pub kind : FieldKind
  pub needed : Bool

-- the row that the program holds
abbrev pub seen : ParamRow → Row
seen row = record { name = row.name.now; kind = row.kind; needed = row.needed }

-- the row of a field that has to be there
abbrev pub needed_row : List ℕ → FieldKind → Row
needed_row name kind = record { name = name; kind = kind; needed = true }

-- the row of a field that may be absent
abbrev pub optional_row : List ℕ → FieldKind → Row
optional_row name kind = record { name = name; kind = kind; needed = false }

-- an optional text: the value of a field
abbrev pub Field : Type 0
Field = Option (List ℕ)

-- what a row makes of its parameter's value: one that is needed has to be there, and one that is there
-- has to be of its kind
abbrev pub judged : Row → Field → Result Field Refusal
judged row None = if row.needed then Err MissingParameter else Ok None
judged row (Some text) = if fits row.kind text then Ok (Some text) else Err InvalidParameterValue

-- the field of a row
abbrev pub field_by : NamedValues → Row → Result Field Refusal
field_by params row = judged row (value_of params row.name)

-- the fields of a table's rows in order, or the refusal of the first row that fails
unfoldable pub fields_by : NamedValues → List Row → Result (List Field) Refusal
fields_by params rows = each (field_by params) rows
