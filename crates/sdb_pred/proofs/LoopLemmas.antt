-- What members are sole on together, and loops over pairs by their values.
use Rattle.std.proofs.Common.{◌≡◌, ℕ, ◌<◌, ◌≤◌, Bool, true, false, not, ◌&&◌, ◌||◌, List, [], ◌∷◌, length, map, get_or, take, Option, Some, None, if◌then◌else◌, refl, sym, ap, ap₂, ◌∙◌}
use Rattle.std.specs.List.{list_all, list_any}
use Rattle.std.specs.Str.{bytes_eq}
use Rattle.std.proofs.lemmas.List.{take_all}
use Rattle.std.proofs.lemmas.List.Folds.{list_all_at}
use Rattle.std.proofs.lemmas.Slice.Eq.{bytes_eq-Decides}
use Rattle.sdb_pairs.specs.declared.pair.Pair.{Pair}
use Rattle.sdb_parse.specs.declared.expr.Expr.{Expr}
use Rattle.sdb_parse.specs.declared.expr.Operand.TheVariants as operand
use Rattle.sdb_parse.specs.declared.test.Test.{Test}
use Rattle.sdb_parse.specs.Fits.{fits}
use Rattle.sdb_parse.specs.Meaning.{Values, any_item, asks, common, has_value, is_absent, meaning, member_holds, names_items, predicate_needs, same_attr, sole, together}
use Rattle.sdb_parse.proofs.MeaningLemmas.{some_member, together_members}
use Rattle.sdb_pairs.specs.Pairs.{part_named}
use Rattle.sdb_pred.specs.Items.{values_in}

itself : (attr : List ℕ) → bytes_eq attr attr ≡ true
itself attr = (bytes_eq-Decides attr attr).1 refl

-- a test of what members are sole on
of_soles : (p : Option (List ℕ) → Bool) (es : List Expr) → list_all p (map sole es) ≡ list_all (λ e. p (sole e)) es
of_soles p [] = refl
of_soles p (e ∷ es) = ap (λ b. p (sole e) && b) (of_soles p es)

-- by the first member and a test of the others
by_others : (first : Expr) (others : List Expr) (attr : List ℕ) (b : Bool) → sole first ≡ Some attr → list_all (λ e. same_attr (Some attr) (sole e)) others ≡ b →
    common (map sole (first ∷ others)) ≡ (if b then Some attr else None)
by_others first others attr b is all =
    ap (λ s. if list_all (same_attr s) (s ∷ map sole others) then s else None) is
    ∙ ap (λ t. if t then Some attr else None) (ap₂ (λ x y. x && y) (itself attr) (of_soles (same_attr (Some attr)) others ∙ all))

common_is : (members : List Expr) (first : Expr) (others : List Expr) (attr : List ℕ) → members ≡ first ∷ others → Some attr ≡ sole first → list_all (λ e. same_attr (Some attr) (sole e)) others ≡ true → Some attr ≡ common (map sole members)
common_is members first others attr is one all = sym (ap (λ l. common (map sole l)) is ∙ by_others first others attr true (sym one) all)

pub common_differs : (members : List Expr) (first : Expr) (others : List Expr) (attr : List ℕ) (i : ℕ) (other : Expr) → members ≡ first ∷ others → Some attr ≡ sole first → i < length others → other ≡ get_or others i other →
    false ≡ same_attr (Some attr) (sole other) → None ≡ common (map sole members)
common_differs members first others attr i other is one within there differs =
    sym (ap (λ l. common (map sole l)) is
    ∙ by_others first others attr false (sym one)
    (list_all_at (λ e. same_attr (Some attr) (sole e)) others i other within (ap (λ e. same_attr (Some attr) (sole e)) (sym there) ∙ sym differs)))

-- what is asked of the values of pairs is asked of the pairs
pub of_values : (p : List ℕ → Bool) (pairs : List Pair) → list_any p (map (λ q. q.value) pairs) ≡ list_any (λ q. p q.value) pairs
of_values p [] = refl
of_values p (q ∷ pairs) = ap (λ b. p q.value || b) (of_values p pairs)

pub of_all_values : (p : List ℕ → Bool) (pairs : List Pair) → list_all p (map (λ q. q.value) pairs) ≡ list_all (λ q. p q.value) pairs
of_all_values p [] = refl
of_all_values p (q ∷ pairs) = ap (λ b. p q.value && b) (of_all_values p pairs)

-- a value that fits all members, by the pairs
by_pairs : (es : List Expr) (attr : List ℕ) (pairs : List Pair) → list_any (λ q. list_all (λ e. not (same_attr (Some attr) (sole e)) || asks e q.value) es) pairs ≡ list_any (together (map meaning es) attr) (map (λ q. q.value) pairs)
by_pairs es attr [] = refl
by_pairs es attr (q ∷ pairs) = ap₂ (λ a b. a || b) (sym (together_members es attr q.value)) (by_pairs es attr pairs)

pub part_by_pairs : (es : List Expr) (s : Option (List ℕ)) (attr name : List ℕ) (own : Bool) (pairs all : List Pair) → Some attr ≡ s → pairs ≡ part_named attr all →
    list_any (λ q. list_all (λ e. not (same_attr (Some attr) (sole e)) || asks e q.value) es) pairs ≡ member_holds (map meaning es) s own name (values_in all)
part_by_pairs es s attr name own pairs all is part =
    by_pairs es attr pairs
    ∙ (ap (λ l. list_any (together (map meaning es) attr) (map (λ q. q.value) l)) part ∙ ap (λ o. member_holds (map meaning es) o own name (values_in all)) is)

pub part_by_itself : (es : List Expr) (s : Option (List ℕ)) (name : List ℕ) (own : Bool) (all : List Pair) → None ≡ s → own ≡ member_holds (map meaning es) s own name (values_in all)
part_by_itself es s name own all none = ap (λ o. member_holds (map meaning es) o own name (values_in all)) none

pub ruleset parts = (part_by_pairs, part_by_itself)

-- after the last of the others
pub common_end : (members : List Expr) (first : Expr) (others : List Expr) (attr : List ℕ) (i : ℕ) → members ≡ first ∷ others → Some attr ≡ sole first → length others ≤ i → list_all (λ e. same_attr (Some attr) (sole e)) (take i others) ≡ true →
    Some attr ≡ common (map sole members)
common_end members first others attr i is one over all =
    common_is members first others attr is one (ap (list_all (λ e. same_attr (Some attr) (sole e))) (sym (take_all i others over)) ∙ all)

-- ---- what is needed of an item

-- there is a value
pub some_value : (values : List (List ℕ)) → list_any (λ value. true) values ≡ not (is_absent values)
some_value [] = refl
some_value (value ∷ values) = refl

pub ruleset needs = (of_values, some_value)

either_need : (b own : Bool) (t : Test) (name : List ℕ) (values : Values) → own ≡ fits t name → (not b || own) ≡ (if b then (λ (name : List ℕ) (values : Values). fits t name) else any_item) name values
either_need true own t name values is = is
either_need false own t name values is = refl

pub name_need : (t : Test) (own : Bool) (name : List ℕ) (values : Values) → own ≡ fits t name → (not (names_items t) || own) ≡ predicate_needs operand.ItemName t name values
name_need t own name values is = either_need (names_items t) own t name values is

-- a value that is asked for by all members, or by one of them, by the pairs
pub all_by_pairs : (es : List Expr) (attr : List ℕ) (pairs all : List Pair) → pairs ≡ part_named attr all →
    list_any (λ q. list_all (λ e. not (same_attr (Some attr) (sole e)) || asks e q.value) es) pairs ≡ has_value attr (together (map meaning es) attr) [] (values_in all)
all_by_pairs es attr pairs all part = part_by_pairs es (Some attr) attr [] false pairs all refl part

some_by_pairs : (es : List Expr) (pairs : List Pair) →
    list_any (λ q. list_any (λ e. asks e q.value) es) pairs ≡ list_any (λ value. list_any (λ m. m.asks value) (map meaning es)) (map (λ q. q.value) pairs)
some_by_pairs es [] = refl
some_by_pairs es (q ∷ pairs) = ap₂ (λ a b. a || b) (sym (some_member (λ m. m.asks q.value) es)) (some_by_pairs es pairs)

pub asked_by_pairs : (es : List Expr) (attr : List ℕ) (pairs all : List Pair) → pairs ≡ part_named attr all →
    list_any (λ q. list_any (λ e. asks e q.value) es) pairs ≡ has_value attr (λ value. list_any (λ m. m.asks value) (map meaning es)) [] (values_in all)
asked_by_pairs es attr pairs all part = some_by_pairs es pairs ∙ ap (λ l. list_any (λ value. list_any (λ m. m.asks value) (map meaning es)) (map (λ q. q.value) l)) part
