-- What a request costs, in units of 10^-10 of an hour.
use Rattle.std.specs.Prelude.{ℕ, ◌+◌, ◌*◌, ◌-◌, ◌^◌, min, List, Bool, true, false, length, sum_by, Option, Some, None, if◌then◌else◌}
use Rattle.sdb_action.specs.declared.request.Request.{Request}
use Rattle.sdb_action.specs.declared.request.Request.TheVariants.{CreateDomain, DeleteDomain, ListDomains, DomainMetadata, Put, BatchPut, Get, Delete, BatchDelete, Select}
use Rattle.sdb_reply.specs.Bodies.{refusal_units}
use Rattle.sdb_reply.specs.declared.outcome.Outcome.{Outcome}
use Rattle.sdb_reply.specs.declared.outcome.Outcome.TheVariants.{Done, Domains, Metadata, Pairs, Items, Count, Refused}

-- how many names of domains are answered
abbrev pub names_answered : Outcome → ℕ
names_answered (Domains names _) = length names
names_answered _ = 0

-- how many items are answered
abbrev pub items_answered : Outcome → ℕ
items_answered (Items shown _) = length shown
items_answered _ = 0

-- how many pairs are answered
abbrev pub pairs_answered : Outcome → ℕ
pairs_answered (Pairs pairs) = length pairs
pairs_answered (Items shown _) = sum_by (λ item. length item.pairs) shown
pairs_answered _ = 0

-- the price of a request that isn't refused; of a Select `bound` items are thought to be looked at
abbrev pub price : Request → Outcome → (bound : ℕ) → ℕ
price (CreateDomain _) outcome bound = 50000
price (DeleteDomain _) outcome bound = 50000
price (ListDomains _ _) outcome bound = 1000 + 100 * names_answered outcome
price (DomainMetadata _) outcome bound = 5000
price (Put _ item _) outcome bound = 2000 + 200 * length item.pairs
price (BatchPut _ items) outcome bound = 2000 + 500 * length items + 200 * sum_by (λ item. length item.pairs) items
price (Get _ _ _) outcome bound = 1000 + 50 * pairs_answered outcome
price (Delete _ item _) outcome bound = 2000 + 200 * length item.parts
price (BatchDelete _ items) outcome bound = 2000 + 500 * length items + 200 * sum_by (λ item. length item.parts) items
price (Select _ _) outcome bound = 1500 + 20 * bound + 100 * items_answered outcome + 50 * pairs_answered outcome

-- whether the request is refused
abbrev pub is_refused : Outcome → Bool
is_refused (Refused _) = true
is_refused _ = false

-- the price of a request; where none was read, or it is refused, that of a refusal
abbrev pub price_of : Option Request → Outcome → (bound : ℕ) → ℕ
price_of None outcome bound = refusal_units
price_of (Some request) outcome bound = if is_refused outcome then refusal_units else price request outcome bound

-- a number, as far as 64 bits hold it
abbrev pub capped : ℕ → ℕ
capped n = min n (2 ^ 64 - 1)

-- the units of a request, as far as 64 bits hold them
unfoldable pub units_of : Option Request → Outcome → (bound : ℕ) → ℕ
units_of request outcome bound = capped (price_of request outcome bound)
