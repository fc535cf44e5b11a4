-- What a conditional write expects of its item (SimpleDB Developer Guide, "Conditionally Putting and Deleting Data").
use Rattle.std.specs.Prelude.{List, [], ◌∷◌, ℕ, Option, Some, None, bytes_eq, map, if◌then◌else◌}
use Rattle.sdb_action.specs.declared.request.Expect.{Expect}
use Rattle.sdb_pairs.specs.declared.pair.Pair.{Pair}
use Rattle.sdb_pairs.specs.Pairs.{part_named}
use Rattle.sdb_tables.specs.declared.refusal.Refusal.{Refusal}
use Rattle.sdb_tables.specs.declared.refusal.Refusal.TheVariants.{ConditionalCheckFailed, AttributeDoesNotExist, MultiValuedAttribute}

-- the values that the item has under a name
abbrev pub values_named : List ℕ → List Pair → List (List ℕ)
values_named name pairs = map (λ p. p.value) (part_named name pairs)

-- what is wanted, one value or none, against the values that are there: the refusal, or none where it is met
abbrev pub judged : Option (List ℕ) → List (List ℕ) → Option Refusal
judged (Some wanted) [] = Some AttributeDoesNotExist
judged (Some wanted) (value ∷ []) = if bytes_eq value wanted then None else Some ConditionalCheckFailed
judged (Some wanted) (value ∷ other ∷ more) = Some MultiValuedAttribute
judged None [] = None
judged None (value ∷ more) = Some ConditionalCheckFailed

-- the refusal of a write whose expectation isn't met by the item's pairs
abbrev pub unmet : Option Expect → List Pair → Option Refusal
unmet None pairs = None
unmet (Some expect) pairs = judged expect.value (values_named expect.name pairs)
