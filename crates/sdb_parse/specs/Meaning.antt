-- What a condition means of an item, and how many items can be looked at for it (SimpleDB Developer Guide,
-- "Queries on Attributes with Multiple Values", "Multiple Attribute Queries"). An item is its name and the values
-- of each attribute.
use Rattle.std.specs.Prelude.{ℕ, ◌+◌, Bool, true, false, not, ◌&&◌, ◌||◌, List, [], ◌∷◌, length, filter, fold, map, count_by, min, Option, Some, None, nat_eq, sum_by, if◌then◌else◌}
use Rattle.std.specs.BTreeSet.{insert_key}
use Rattle.std.specs.List.{list_all, list_any, starts_with}
use Rattle.std.specs.Str.{bytes_eq}
use Rattle.sdb_base.specs.Texts.{text_cmp}
use Rattle.sdb_parse.specs.declared.expr.Expr.{Expr, Expr-F, fold-Expr}
use Rattle.sdb_parse.specs.declared.expr.Expr.TheOpen as level
use Rattle.sdb_parse.specs.declared.expr.Operand.{Operand}
use Rattle.sdb_parse.specs.declared.expr.Operand.TheVariants as operand
use Rattle.sdb_parse.specs.declared.test.Test.{Test}
use Rattle.sdb_parse.specs.declared.test.Test.TheVariants as test
use Rattle.sdb_parse.specs.Conditions.{is_null_test}
use Rattle.sdb_parse.specs.Fits.{fits}
use Rattle.sdb_parse.specs.Patterns.{letters, parts_of}

-- the values of each attribute of an item
abbrev pub Values : Type 0
Values = List ℕ → List (List ℕ)

-- what an item is asked, by its name and its values
abbrev pub Question : Type 0
Question = List ℕ → Values → Bool

-- a condition: the attribute that it is sole on, if any, and what it asks of one value there; what an item is asked by
-- it; and its bound, where `count` tells how many items answer a question
pub record Meaning : Type 0 where
  pub sole : Option (List ℕ)
  pub asks : List ℕ → Bool
  pub holds : Question
  pub bound : (Question → ℕ) → ℕ

-- ---- sole on one attribute

-- both are sole, and on the same attribute
abbrev pub same_attr : Option (List ℕ) → Option (List ℕ) → Bool
same_attr (Some a) (Some b) = bytes_eq a b
same_attr _ _ = false

-- the attribute that all are sole on
abbrev pub common : List (Option (List ℕ)) → Option (List ℕ)
common [] = None
common (one ∷ others) = if list_all (same_attr one) (one ∷ others) then one else None

-- a predicate on the plain attribute is sole on it, unless it is a null test
abbrev pub sole_predicate : Operand → Test → Option (List ℕ)
sole_predicate (operand.Attr attr) t = if is_null_test t then None else Some attr
sole_predicate _ t = None

-- a predicate, and `and` and `or` whose members are all sole on the same
abbrev pub sole_here : Expr-F Meaning → Option (List ℕ)
sole_here (level.Pred o t) = sole_predicate o t
sole_here (level.Not negated) = None
sole_here (level.And members) = common (map (λ m. m.sole) members)
sole_here (level.Or members) = common (map (λ m. m.sole) members)
sole_here (level.Inter members) = None

-- what a sole condition asks of one value: `and` what all members ask, `or` what some member asks
abbrev pub asks_here : Expr-F Meaning → List ℕ → Bool
asks_here (level.Pred o t) value = fits t value
asks_here (level.Not negated) value = false
asks_here (level.And members) value = list_all (λ m. m.asks value) members
asks_here (level.Or members) value = list_any (λ m. m.asks value) members
asks_here (level.Inter members) value = false

-- ---- what an item holds

-- some value of the attribute passes
abbrev pub has_value : List ℕ → (List ℕ → Bool) → Question
has_value attr pass name values = list_any pass (values attr)

-- whether all members that are sole on the attribute ask for that value
abbrev pub together : List Meaning → List ℕ → List ℕ → Bool
together members attr value = list_all (λ m. not (same_attr (Some attr) m.sole) || m.asks value) members

-- the null tests: whether the attribute has to be absent
abbrev pub absence_of : Test → Option Bool
absence_of test.IsNull = Some true
absence_of test.IsNotNull = Some false
absence_of _ = None

-- no values
abbrev pub is_absent : List (List ℕ) → Bool
is_absent [] = true
is_absent (value ∷ values) = false

-- the attribute is absent, or there, or has a value that fits
abbrev pub attr_holds : Option Bool → List ℕ → Test → Question
attr_holds (Some true) attr t name values = is_absent (values attr)
attr_holds (Some false) attr t name values = not (is_absent (values attr))
attr_holds None attr t name values = has_value attr (fits t) name values

-- a name is there, and the test is asked of it
abbrev pub name_holds : Option Bool → Test → Question
name_holds (Some absent) t name values = not absent
name_holds None t name values = fits t name

-- `every` holds where there is a value and all values fit
abbrev pub predicate_holds : Operand → Test → Question
predicate_holds (operand.Attr attr) t name values = attr_holds (absence_of t) attr t name values
predicate_holds (operand.Every attr) t name values = not (is_absent (values attr)) && list_all (fits t) (values attr)
predicate_holds operand.ItemName t name values = name_holds (absence_of t) t name values

-- a member of `and`: where it is sole on an attribute, one value fits all members that are sole there
abbrev pub member_holds : List Meaning → Option (List ℕ) → Bool → Question
member_holds members (Some attr) own name values = has_value attr (together members attr) name values
member_holds members None own name values = own

-- `and` asks for one value of each attribute, `intersection` that each member holds
abbrev pub holds_here : Expr-F Meaning → Question
holds_here (level.Pred o t) name values = predicate_holds o t name values
holds_here (level.Not negated) name values = not (negated.holds name values)
holds_here (level.And members) name values = list_all (λ m. member_holds members m.sole (m.holds name values) name values) members
holds_here (level.Or members) name values = list_any (λ m. m.holds name values) members
holds_here (level.Inter members) name values = list_all (λ m. m.holds name values) members

-- ---- the bound

-- every item
abbrev pub any_item : Question
any_item name values = true

-- names that are compared with constants
abbrev pub names_items : Test → Bool
names_items (test.Eq text) = true
names_items (test.OneOf texts) = true
names_items _ = false

-- the attribute may be anything where it may be absent
abbrev pub attr_needs : Option Bool → List ℕ → Test → Question
attr_needs (Some true) attr t = any_item
attr_needs (Some false) attr t = has_value attr (λ value. true)
attr_needs None attr t = has_value attr (fits t)

-- what an item has to answer so that it can hold a predicate
abbrev pub predicate_needs : Operand → Test → Question
predicate_needs (operand.Attr attr) t = attr_needs (absence_of t) attr t
predicate_needs (operand.Every attr) t = has_value attr (fits t)
predicate_needs operand.ItemName t = if names_items t then (λ name values. fits t name) else any_item

-- the least number of members, and at most `all`
abbrev pub least_by : {A : Type 0} → ℕ → (A → ℕ) → List A → ℕ
least_by all number members = fold (λ least m. min least (number m)) all members

-- a member of `and`: items with a value that fits all members that are sole there
abbrev pub member_bound : (Question → ℕ) → List Meaning → Option (List ℕ) → ℕ → ℕ
member_bound count members (Some attr) own = count (has_value attr (together members attr))
member_bound count members None own = own

-- `or` that is sole: items with a value that fits some member; else the sum over the members, and at most all items
abbrev pub or_bound : (Question → ℕ) → Option (List ℕ) → List Meaning → ℕ
or_bound count (Some attr) members = count (has_value attr (λ value. list_any (λ m. m.asks value) members))
or_bound count None members = min (count any_item) (sum_by (λ m. m.bound count) members)

-- how many items can hold it, at most
abbrev pub bound_here : Expr-F Meaning → (Question → ℕ) → ℕ
bound_here (level.Pred o t) count = count (predicate_needs o t)
bound_here (level.Not negated) count = count any_item
bound_here (level.And members) count = least_by (count any_item) (λ m. member_bound count members m.sole (m.bound count)) members
bound_here (level.Or members) count = or_bound count (common (map (λ m. m.sole) members)) members
bound_here (level.Inter members) count = least_by (count any_item) (λ m. m.bound count) members

-- ---- conditions

-- one level of a condition
abbrev pub meaning_here : Expr-F Meaning → Meaning
meaning_here l = record { sole = sole_here l; asks = asks_here l; holds = holds_here l; bound = bound_here l }

-- what a condition means
unfoldable pub meaning : Expr → Meaning
meaning e = fold-Expr Meaning meaning_here e

-- the attribute that a condition is sole on
abbrev pub sole : Expr → Option (List ℕ)
sole e = (meaning e).sole

-- what it asks of one value
abbrev pub asks : Expr → List ℕ → Bool
asks e = (meaning e).asks

-- whether the item with that name and these values holds it
abbrev pub holds : Expr → Question
holds e = (meaning e).holds

-- how many items can hold it, at most, where `count` tells how many items answer a question
abbrev pub bound : Expr → (Question → ℕ) → ℕ
bound e = (meaning e).bound

-- ---- over a list of items

-- how many items answer a question
abbrev pub counted : List (List ℕ × Values) → Question → ℕ
counted items asked = count_by (λ item. asked item.0 item.1) items

-- all values of an attribute, each once and rising
abbrev pub all_values : List (List ℕ × Values) → List ℕ → List (List ℕ)
all_values items attr = fold (λ found item. fold (insert_key text_cmp) found (item.1 attr)) [] items

-- how many values of an attribute pass
abbrev pub distinct : List (List ℕ × Values) → List ℕ → (List ℕ → Bool) → ℕ
distinct items attr pass = length (filter pass (all_values items attr))

-- the values that begin with the plain text before the first `%` of a pattern
abbrev pub begins_as : List ℕ → List ℕ → Bool
begins_as pattern value = starts_with nat_eq value (parts_of (letters pattern)).0

-- how many values of an index are looked at for a test, where `number` tells how many values of the attribute pass
abbrev pub test_probes : ((List ℕ → Bool) → ℕ) → Test → ℕ
test_probes number (test.Eq text) = 1
test_probes number (test.Ne text) = number (λ value. true) + 1
test_probes number (test.Like pattern) = number (begins_as pattern) + 2
test_probes number (test.NotLike pattern) = number (λ value. true) + 1
test_probes number (test.OneOf texts) = length texts
test_probes number test.IsNull = 0
test_probes number test.IsNotNull = number (λ value. true) + 1
test_probes number t = number (fits t) + 2

-- and for a predicate: names are in no index
abbrev pub predicate_probes : (List ℕ → (List ℕ → Bool) → ℕ) → Operand → Test → ℕ
predicate_probes number (operand.Attr attr) t = test_probes (number attr) t
predicate_probes number (operand.Every attr) t = test_probes (number attr) t
predicate_probes number operand.ItemName t = 0

-- and for one level of a condition
abbrev pub probes_here : (List ℕ → (List ℕ → Bool) → ℕ) → Expr-F ℕ → ℕ
probes_here number (level.Pred o t) = predicate_probes number o t
probes_here number (level.Not negated) = 0
probes_here number (level.And members) = sum_by (λ m. m) members
probes_here number (level.Or members) = sum_by (λ m. m) members
probes_here number (level.Inter members) = sum_by (λ m. m) members

-- how many values of indexes are looked at for a condition
unfoldable pub probes : (List ℕ → (List ℕ → Bool) → ℕ) → Expr → ℕ
probes number e = fold-Expr ℕ (probes_here number) e
