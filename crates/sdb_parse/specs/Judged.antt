-- The refusals of a tree that a text spells (SimpleDB Developer Guide, "Limits" and "API Error Codes").
use Rattle.std.specs.Prelude.{ℕ, Bool, true, false, not, ◌&&◌, List, [], ◌∷◌, length, Option, Some, None, nat_lt, if◌then◌else◌}
use Rattle.std.specs.List.{list_any, flat_map}
use Rattle.std.specs.Str.{bytes_eq}
use Rattle.sdb_tables.specs.declared.refusal.Refusal.{Refusal}
use Rattle.sdb_tables.specs.declared.refusal.Refusal.TheVariants as refusal
use Rattle.sdb_parse.specs.declared.expr.Expr.{Expr, Expr-F, fold-Expr}
use Rattle.sdb_parse.specs.declared.expr.Expr.TheOpen as level
use Rattle.sdb_parse.specs.declared.expr.Operand.{Operand}
use Rattle.sdb_parse.specs.declared.expr.Operand.TheVariants as operand
use Rattle.sdb_parse.specs.declared.select.Output.{Output}
use Rattle.sdb_parse.specs.declared.select.Output.TheVariants as output
use Rattle.sdb_parse.specs.declared.select.Select.{Select}
use Rattle.sdb_parse.specs.declared.select.Sort.{Sort}
use Rattle.sdb_parse.specs.declared.select.SortKey.{SortKey}
use Rattle.sdb_parse.specs.declared.select.SortKey.TheVariants as key
use Rattle.sdb_parse.specs.declared.test.Test.{Test}
use Rattle.sdb_parse.specs.declared.test.Test.TheVariants as test

-- an operand with its test
abbrev pub Predicate : Type 0
Predicate = Operand × Test

-- the predicates of one level
abbrev pub predicates_here : Expr-F (List Predicate) → List Predicate
predicates_here (level.Pred o t) = (o, t) ∷ []
predicates_here (level.Not inner) = inner
predicates_here (level.And members) = flat_map (λ m. m) members
predicates_here (level.Or members) = flat_map (λ m. m) members
predicates_here (level.Inter members) = flat_map (λ m. m) members

-- the predicates of a condition, in the order of the text
unfoldable pub predicates : Expr → List Predicate
predicates e = fold-Expr (List Predicate) predicates_here e

-- the predicates of a condition that may be absent
abbrev pub predicates_of : Option Expr → List Predicate
predicates_of None = []
predicates_of (Some e) = predicates e

-- more than 20 constants in one `in`
abbrev pub is_long : Test → Bool
is_long (test.OneOf texts) = nat_lt 20 (length texts)
is_long _ = false

-- the operand is on that attribute
abbrev pub is_on : List ℕ → Operand → Bool
is_on name (operand.Attr attr) = bytes_eq attr name
is_on name (operand.Every attr) = bytes_eq attr name
is_on name operand.ItemName = false

-- the test for absence
abbrev pub is_absence : Test → Bool
is_absence test.IsNull = true
is_absence _ = false

-- the attribute stands in the predicate, which isn't `is null`
abbrev pub stands_in : List ℕ → Predicate → Bool
stands_in name p = is_on name p.0 && not (is_absence p.1)

-- items can be ordered by that: by their names, or by an attribute that stands in a predicate other than `is null`
abbrev pub may_sort_by : List Predicate → SortKey → Bool
may_sort_by ps key.ItemName = true
may_sort_by ps (key.Attr name) = list_any (stands_in name) ps

-- the sort attribute stands in a predicate that counts
abbrev pub may_sort : List Predicate → Option Sort → Bool
may_sort ps None = true
may_sort ps (Some sort) = may_sort_by ps sort.by

-- how many attributes are asked for
abbrev pub names_of : Output → ℕ
names_of (output.Listed names) = length names
names_of _ = 0

-- the first refusal by what is true of a tree
abbrev pub verdict : Bool → Bool → Bool → Bool → Option Refusal
verdict many_names many_predicates long sorts =
    if many_names then Some refusal.TooManyRequestedAttributes else
    (if many_predicates then Some refusal.InvalidNumberPredicates else
    (if long then Some refusal.InvalidNumberValueTests else
    (if sorts then None else Some refusal.InvalidSortExpression)))

-- the first refusal of a tree, if any: more than 256 names in the output, more than 20 predicates, more than 20
-- constants in one `in`, an order by an attribute that doesn't stand
unfoldable pub judged : Select → Option Refusal
judged s =
    verdict (nat_lt 256 (names_of s.output)) (nat_lt 20 (length (predicates_of s.cond))) (list_any (λ p. is_long p.1) (predicates_of s.cond))
    (may_sort (predicates_of s.cond) s.sort)
