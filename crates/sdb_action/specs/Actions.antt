-- The actions and their names (SimpleDB Developer Guide, "API Reference").
use Rattle.std.specs.Prelude.{ℕ, List, [], ◌∷◌, Option, Some, None, Result, Ok, Err, codes}
use Rattle.std.specs.List.{find}
use Rattle.std.specs.Str.{bytes_eq}
use Rattle.sdb_base.specs.Pairs.{NamedValues, value_of}
use Rattle.sdb_tables.specs.declared.refusal.Refusal.{Refusal}
use Rattle.sdb_tables.specs.declared.refusal.Refusal.TheVariants.{MissingParameter, InvalidAction}
use Rattle.sdb_action.specs.declared.action.Action.{Action}
use Rattle.sdb_action.specs.declared.action.Action.TheVariants.{CreateDomain, DeleteDomain, ListDomains, DomainMetadata, PutAttributes, BatchPutAttributes, GetAttributes, DeleteAttributes, BatchDeleteAttributes, Select}

-- the name of an action
unfoldable pub action_text : Action → List ℕ
action_text CreateDomain = codes "CreateDomain"
action_text DeleteDomain = codes "DeleteDomain"
action_text ListDomains = codes "ListDomains"
action_text DomainMetadata = codes "DomainMetadata"
action_text PutAttributes = codes "PutAttributes"
action_text BatchPutAttributes = codes "BatchPutAttributes"
action_text GetAttributes = codes "GetAttributes"
action_text DeleteAttributes = codes "DeleteAttributes"
action_text BatchDeleteAttributes = codes "BatchDeleteAttributes"
action_text Select = codes "Select"

-- the ten actions
abbrev pub actions : List Action
actions =
    CreateDomain
    ∷
    DeleteDomain
    ∷
    ListDomains
    ∷
    DomainMetadata
    ∷
    PutAttributes
    ∷
    BatchPutAttributes
    ∷
    GetAttributes
    ∷
    DeleteAttributes
    ∷
    BatchDeleteAttributes
    ∷
    Select
    ∷
    []

-- the action of that name
unfoldable pub action_named : List ℕ → Option Action
action_named name = find (λ action. bytes_eq name (action_text action)) actions

-- a name that no action has is InvalidAction
abbrev pub one_of_ten : Option Action → Result Action Refusal
one_of_ten None = Err InvalidAction
one_of_ten (Some action) = Ok action

-- and where there is none, the parameter is missing
abbrev pub named_action : Option (List ℕ) → Result Action Refusal
named_action None = Err MissingParameter
named_action (Some name) = one_of_ten (action_named name)

-- the action that the parameters name
abbrev pub action_of : NamedValues → Result Action Refusal
action_of params = named_action (value_of params (codes "Action"))
