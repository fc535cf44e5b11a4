-- The bound of each kind of condition, by the bounds of its members.
use Rattle.std.proofs.Common.{◌≡◌, ℕ, ◌+◌, Bool, true, cond, List, length, map, get_or, take, ◌<◌, refl, sym, ap, ap₂, ◌∙◌, arith}
use Rattle.std.specs.Prelude.{count_by, min, sum_by}
use Rattle.std.proofs.lemmas.List.Folds.{fold-map}
use Rattle.std.proofs.lemmas.List.Recursion.{is_count_by}
use Rattle.std.proofs.lemmas.List.Sums.{sum_by_more}
use Rattle.sdb_parse.specs.declared.expr.Expr.{Expr}
use Rattle.sdb_parse.specs.declared.expr.Expr.TheVariants.{Pred, Not, And, Or, Inter}
use Rattle.sdb_parse.specs.declared.expr.Operand.{Operand}
use Rattle.sdb_parse.specs.declared.test.Test.{Test}
use Rattle.sdb_parse.specs.Meaning.{Meaning, Question, Values, any_item, bound, counted, least_by, meaning, member_bound, or_bound, predicate_needs, sole}
use Rattle.sdb_parse.proofs.MeaningLemmas.{meaning_Pred, meaning_Not, meaning_And, meaning_Or, meaning_Inter}
use Rattle.sdb_pred.specs.Items.{values_in}
use Rattle.sdb_domain.specs.Rows.{seen_row}
use Rattle.sdb_page.specs.Seen.{count_in}
use Rattle.sdb_page.specs.Selects.{valued}
use Rattle.sdb_domain.specs.declared.row.Row.{Row}

pub least_members : (all : ℕ) (number : Meaning → ℕ) (es : List Expr) → least_by all number (map meaning es) ≡ least_by all (λ e. number (meaning e)) es
least_members all number es = fold-map (λ least m. min least (number m)) meaning all es

pub sum_members : (number : Meaning → ℕ) (es : List Expr) → sum_by number (map meaning es) ≡ sum_by (λ e. number (meaning e)) es
sum_members number es = fold-map (λ sum m. sum + number m) meaning 0 es

pub bound_Pred : (o : Operand) (t : Test) (count : Question → ℕ) → bound (Pred o t) count ≡ count (predicate_needs o t)
bound_Pred o t count = ap (λ (m : Meaning). m.bound count) (meaning_Pred o t)

pub bound_Not : (e : Expr) (count : Question → ℕ) → bound (Not e) count ≡ count any_item
bound_Not e count = ap (λ (m : Meaning). m.bound count) (meaning_Not e)

pub bound_And : (es : List Expr) (count : Question → ℕ) → bound (And es) count ≡ least_by (count any_item) (λ e. member_bound count (map meaning es) (sole e) (bound e count)) es
bound_And es count =
    ap (λ (m : Meaning). m.bound count) (meaning_And es) ∙ least_members (count any_item) (λ m. member_bound count (map meaning es) m.sole (m.bound count)) es

pub bound_Or : (es : List Expr) (count : Question → ℕ) → bound (Or es) count ≡ or_bound count (sole (Or es)) (map meaning es)
bound_Or es count =
    ap (λ (m : Meaning). m.bound count) (meaning_Or es) ∙ ap (λ s. or_bound count s (map meaning es)) (sym (ap (λ (m : Meaning). m.sole) (meaning_Or es)))

pub bound_Inter : (es : List Expr) (count : Question → ℕ) → bound (Inter es) count ≡ least_by (count any_item) (λ e. bound e count) es
bound_Inter es count = ap (λ (m : Meaning). m.bound count) (meaning_Inter es) ∙ least_members (count any_item) (λ m. m.bound count) es

-- every row is counted
pub count_all : {X : Type 0} (xs : List X) → length xs ≡ count_by (λ x. true) xs
count_all xs = is_count_by length (λ x. true) refl (λ x ys. omega arith) xs

pub count_rows : (rows : List Row) → length rows ≡ count_in rows any_item
count_rows rows = count_all rows

pub ruleset bound_laws = (bound_Pred, bound_Not, bound_And, bound_Or, bound_Inter)

-- counted over rows is counted over the items that they lend
pub count_in-items : (rows : List Row) (asked : Question) → count_in rows asked ≡ counted (valued (map seen_row rows)) asked
count_in-items rows asked =
    sym (
    fold-map (λ n (item : List ℕ × Values). n + cond (asked item.0 item.1) 1 0) (λ item. (item.0, values_in item.1)) 0 (map seen_row rows)
    ∙ fold-map (λ n item. n + cond (asked item.0 (values_in item.1)) 1 0) seen_row 0 rows
    )

pub bound_over : (e : Expr) (rows : List Row) → bound e (count_in rows) ≡ bound e (counted (valued (map seen_row rows)))
bound_over e rows = ap (bound e) (λ i asked. count_in-items rows asked i)

-- a row more
pub count_more : (rows : List Row) (asked : Question) (i : ℕ) (row : Row) (now next : ℕ) (b : Bool) → i < length rows → b ≡ asked (get_or rows i row).name.now (values_in (get_or rows i row).item.now)
    → now ≡ count_in (take i rows) asked → next ≡ now + cond b 1 0 → next ≡ count_in (take (i + 1) rows) asked
count_more rows asked i row now next b inside is so_far more =
    more ∙ ap₂ (λ n t. n + cond t 1 0) so_far is ∙ sym (sum_by_more (λ row. cond (asked row.name.now (values_in row.item.now)) 1 0) rows i row inside)

-- the sum so far, at most all, and a member more
pub sum_more : (es : List Expr) (number : Expr → ℕ) (i : ℕ) (e : Expr) (all now one added next : ℕ) → all < 18446744073709551616 → i < length es → now ≡ min all (sum_by number (take i es)) → one ≡ number (get_or es i e)
    → added ≡ min (now + one) 18446744073709551615 → next ≡ min all added → next ≡ min all (sum_by number (take (i + 1) es))
sum_more es number i e all now one added next fits inside is one_is added_is more = omega (arith, fits, is, one_is, added_is, more, sum_by_more number es i e inside)
