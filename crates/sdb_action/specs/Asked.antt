-- What the parameters of a request ask for, or the first refusal of their fields and then of their lists.
use Rattle.std.specs.Prelude.{ℕ, List, [], ◌∷◌, Some, None, unwrap_or, option_and_then, Result, Ok}
use Rattle.sdb_base.specs.Decimal.{decimal_of}
use Rattle.sdb_base.specs.Pairs.{NamedValues}
use Rattle.sdb_tables.specs.Rules.{Field, fields_by}
use Rattle.sdb_tables.specs.declared.refusal.Refusal.{Refusal}
use Rattle.sdb_action.specs.declared.action.Action.{Action}
use Rattle.sdb_action.specs.declared.action.Action.TheVariants as action
use Rattle.sdb_action.specs.declared.request.Request.{Request}
use Rattle.sdb_action.specs.declared.request.Request.TheVariants as request
use Rattle.sdb_base.specs.Results.{and_then}
use Rattle.sdb_action.specs.Tables.{field_at, text_at, domain_rows, item_rows, get_rows, list_rows, select_rows}
use Rattle.sdb_action.specs.Lists.{put_pairs, drop_parts, asked_names, put_items, drop_items, expectation}

-- the domain of a request whose one field is its domain
abbrev pub domain : NamedValues → Result (List ℕ) Refusal
domain params = and_then (fields_by params domain_rows) (λ fields. text_at fields 0)

-- how many names `ListDomains` answers at most: the number asked for, 100 where none is
abbrev pub most_domains : Field → ℕ
most_domains field = unwrap_or (option_and_then (λ text. decimal_of text 100) field) 100

-- an empty token is none
abbrev pub token : Field → Field
token None = None
token (Some []) = None
token (Some (c ∷ cs)) = Some (c ∷ cs)

-- what ListDomains asks for
abbrev pub list_domains : NamedValues → Result Request Refusal
list_domains params =
    and_then (fields_by params list_rows) (λ fields. Ok (request.ListDomains (most_domains (field_at fields 0)) (token (field_at fields 1))))

-- what PutAttributes asks for
abbrev pub put : NamedValues → Result Request Refusal
put params =
    and_then (fields_by params item_rows) (λ fields.
    and_then (text_at fields 0) (λ domain.
    and_then (text_at fields 1) (λ name.
    and_then (put_pairs params) (λ pairs.
    and_then (expectation params) (λ expected.
    Ok (request.Put domain (record { name = name; pairs = pairs }) expected))))))

-- what DeleteAttributes asks for
abbrev pub delete : NamedValues → Result Request Refusal
delete params =
    and_then (fields_by params item_rows) (λ fields.
    and_then (text_at fields 0) (λ domain.
    and_then (text_at fields 1) (λ name.
    and_then (drop_parts params) (λ parts.
    and_then (expectation params) (λ expected.
    Ok (request.Delete domain (record { name = name; parts = parts }) expected))))))

-- what GetAttributes asks for
abbrev pub get : NamedValues → Result Request Refusal
get params =
    and_then (fields_by params get_rows) (λ fields.
    and_then (text_at fields 0) (λ domain.
    and_then (text_at fields 1) (λ name.
    and_then (asked_names params) (λ names. Ok (request.Get domain name names)))))

-- what BatchPutAttributes asks for
abbrev pub batch_put : NamedValues → Result Request Refusal
batch_put params = and_then (domain params) (λ name. and_then (put_items params) (λ items. Ok (request.BatchPut name items)))

-- what BatchDeleteAttributes asks for
abbrev pub batch_delete : NamedValues → Result Request Refusal
batch_delete params = and_then (domain params) (λ name. and_then (drop_items params) (λ items. Ok (request.BatchDelete name items)))

-- what Select asks for
abbrev pub select : NamedValues → Result Request Refusal
select params =
    and_then (fields_by params select_rows) (λ fields.
    and_then (text_at fields 0) (λ expression. Ok (request.Select expression (token (field_at fields 2)))))

-- the request that an action makes of its parameters
abbrev pub asked : Action → NamedValues → Result Request Refusal
asked action.CreateDomain params = and_then (domain params) (λ name. Ok (request.CreateDomain name))
asked action.DeleteDomain params = and_then (domain params) (λ name. Ok (request.DeleteDomain name))
asked action.ListDomains params = list_domains params
asked action.DomainMetadata params = and_then (domain params) (λ name. Ok (request.DomainMetadata name))
asked action.PutAttributes params = put params
asked action.BatchPutAttributes params = batch_put params
asked action.GetAttributes params = get params
asked action.DeleteAttributes params = delete params
asked action.BatchDeleteAttributes params = batch_delete params
asked action.Select params = select params
