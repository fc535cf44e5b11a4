-- What doesn't matter to what is asked: the order of parameters, and parameters that no rule names.
use Rattle.std.specs.Prelude.{ℕ, ◌≡◌, List, [], ◌∷◌, ◌++◌, Bool, false, ◌||◌, is_some, IsTrue}
use Rattle.std.specs.List.{list_any}
use Rattle.std.specs.List.Sorted.{IsPermutation}
use Rattle.std.specs.Str.{bytes_eq}
use Rattle.sdb_base.specs.Pairs.{NamedValues, HasDistinctNames, value_of}
use Rattle.sdb_tables.specs.Rules.{Row}
use Rattle.sdb_action.specs.declared.action.Action.{Action}
use Rattle.sdb_action.specs.declared.action.Action.TheVariants.{CreateDomain, DeleteDomain, ListDomains, DomainMetadata, PutAttributes, BatchPutAttributes, GetAttributes, DeleteAttributes, BatchDeleteAttributes, Select}
use Rattle.sdb_action.specs.declared.numbers.EntryKind.{EntryKind}
use Rattle.sdb_action.specs.declared.numbers.EntryKind.TheVariants.{Attribute, AttributeName, Expected, Item}
use Rattle.sdb_action.specs.Numbers.{part_of}
use Rattle.sdb_action.specs.Tables.{domain_rows, item_rows, get_rows, list_rows, select_rows}
use Rattle.sdb_action.specs.Asked.{asked}

-- the rows of an action's own fields
abbrev pub rows_named_by : Action → List Row
rows_named_by CreateDomain = domain_rows
rows_named_by DeleteDomain = domain_rows
rows_named_by ListDomains = list_rows
rows_named_by DomainMetadata = domain_rows
rows_named_by PutAttributes = item_rows
rows_named_by BatchPutAttributes = domain_rows
rows_named_by GetAttributes = get_rows
rows_named_by DeleteAttributes = item_rows
rows_named_by BatchDeleteAttributes = domain_rows
rows_named_by Select = select_rows

-- the numbered lists of an action
abbrev pub lists_of : Action → List EntryKind
lists_of CreateDomain = []
lists_of DeleteDomain = []
lists_of ListDomains = []
lists_of DomainMetadata = []
lists_of PutAttributes = Attribute ∷ Expected ∷ []
lists_of BatchPutAttributes = Item ∷ []
lists_of GetAttributes = AttributeName ∷ []
lists_of DeleteAttributes = Attribute ∷ Expected ∷ []
lists_of BatchDeleteAttributes = Item ∷ []
lists_of Select = []

-- a row of the action has that name, or one of its lists has a part of that name
abbrev pub is_named : Action → List ℕ → Bool
is_named action name = list_any (λ row. bytes_eq name row.name) (rows_named_by action) || list_any (λ kind. is_some (part_of kind name)) (lists_of action)

-- parameters that agree on what the action's rules name ask for the same
abbrev pub NamedDecide : Type 0
NamedDecide = (action : Action) (params others : NamedValues) → ((name : List ℕ) → IsTrue (is_named action name) → value_of params name ≡ value_of others name) → asked action params ≡ asked action others

-- the order of parameters doesn't matter
abbrev pub OrderIsFree : Type 0
OrderIsFree = (action : Action) (params others : NamedValues) → HasDistinctNames params → IsPermutation params others → asked action params ≡ asked action others

-- a parameter that no rule of the action names doesn't matter
abbrev pub UnnamedIsFree : Type 0
UnnamedIsFree = (action : Action) (before after : NamedValues) (name value : List ℕ) → is_named action name ≡ false
    → asked action (before ++ (name, value) ∷ after) ≡ asked action (before ++ after)
