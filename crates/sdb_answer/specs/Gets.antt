-- What a get answers.
use Rattle.std.specs.Prelude.{◌≡◌, List, ℕ, [], ◌∷◌, Bool, true, filter, bytes_eq, Option, None, Some}
use Rattle.std.specs.Borrow.{Bor}
use Rattle.std.specs.Cmp.Lexicographic.{slice_cmp}
use Rattle.std.specs.List.{list_any}
use Rattle.std.specs.Ordering.{is_eq, nat_cmp}
use Rattle.sdb_pairs.specs.declared.pair.Pair.{Pair}
use Rattle.sdb_pairs.specs.Accounts.{ItemEntries, pairs_at}
use Rattle.sdb_tables.specs.declared.refusal.Refusal.TheVariants.{NoSuchDomain}
use Rattle.sdb_reply.specs.declared.outcome.Outcome.{Outcome}
use Rattle.sdb_reply.specs.declared.outcome.Outcome.TheVariants.{Pairs, Refused}

-- whether a get of these names asks for the pair: it has one of the names, or there is no name
abbrev pub is_asked : List (List ℕ) → Pair → Bool
is_asked [] pair = true
is_asked (name ∷ names) pair = list_any (bytes_eq pair.name) (name ∷ names)

-- the pairs that are asked for, in their order
abbrev pub asked_pairs : List (List ℕ) → List Pair → List Pair
asked_pairs names pairs = filter (is_asked names) pairs

-- the outcome of a get in a domain of these items
abbrev pub got : Option ItemEntries → (item : List ℕ) → (names : List (List ℕ)) → Outcome
got None item names = Refused NoSuchDomain
got (Some items) item names = Pairs (asked_pairs names (pairs_at items item))

-- an ordered set finds a name where it is one of these
abbrev pub Finds : List (Bor (List ℕ)) → List (List ℕ) → Type 0
Finds keys names = (name : List ℕ) → list_any (λ k. is_eq (slice_cmp nat_cmp name k.now)) keys ≡ list_any (bytes_eq name) names
