-- The rows of worked bounds and probes.
use Rattle.std.proofs.Common.{◌≡◌, ℕ, Bool, true, List, map, sum_by, refl, sym, ap, ◌∙◌}
use Rattle.std.specs.List.{list_all}
use Rattle.sdb_parse.specs.declared.expr.Expr.{Expr, fold-roll-Expr}
use Rattle.sdb_parse.specs.declared.expr.Expr.TheVariants.{Pred, Not, And, Or, Inter, rolls-Pred, rolls-Not, rolls-And, rolls-Or, rolls-Inter}
use Rattle.sdb_parse.specs.declared.expr.Expr.TheOpen as level
use Rattle.sdb_parse.specs.declared.expr.Operand.{Operand}
use Rattle.sdb_parse.specs.declared.test.Test.{Test}
use Rattle.sdb_parse.specs.Meaning.{Meaning, Values, any_item, bound, bound_here, meaning, predicate_needs, predicate_probes, probes, probes_here}
use Rattle.sdb_parse.specs.Patterns.{has_letters, letters, parts_of}
use Rattle.sdb_parse.proofs.MeaningLemmas.{meaning_Pred, meaning_Not, meaning_And, meaning_Or, meaning_Inter}
use Rattle.sdb_select_tests.specs.Worked.{attribute_rows, has, member_rows, other_rows}

probes_Pred : (number : List ℕ → (List ℕ → Bool) → ℕ) (o : Operand) (t : Test) → probes number (Pred o t) ≡ predicate_probes number o t
unfolding probes
probes_Pred number o t = ap (probes number) (sym (rolls-Pred o t)) ∙ fold-roll-Expr ℕ (probes_here number) (level.Pred o t)

probes_Not : (number : List ℕ → (List ℕ → Bool) → ℕ) (e : Expr) → probes number (Not e) ≡ 0
unfolding probes
probes_Not number e = ap (probes number) (sym (rolls-Not e)) ∙ fold-roll-Expr ℕ (probes_here number) (level.Not e)

probes_And : (number : List ℕ → (List ℕ → Bool) → ℕ) (es : List Expr) → probes number (And es) ≡ sum_by (λ m. m) (map (probes number) es)
unfolding probes
probes_And number es = ap (probes number) (sym (rolls-And es)) ∙ fold-roll-Expr ℕ (probes_here number) (level.And es)

probes_Or : (number : List ℕ → (List ℕ → Bool) → ℕ) (es : List Expr) → probes number (Or es) ≡ sum_by (λ m. m) (map (probes number) es)
unfolding probes
probes_Or number es = ap (probes number) (sym (rolls-Or es)) ∙ fold-roll-Expr ℕ (probes_here number) (level.Or es)

probes_Inter : (number : List ℕ → (List ℕ → Bool) → ℕ) (es : List Expr) → probes number (Inter es) ≡ sum_by (λ m. m) (map (probes number) es)
unfolding probes
probes_Inter number es = ap (probes number) (sym (rolls-Inter es)) ∙ fold-roll-Expr ℕ (probes_here number) (level.Inter es)

bound_Pred : (count : (List ℕ → Values → Bool) → ℕ) (o : Operand) (t : Test) → bound (Pred o t) count ≡ count (predicate_needs o t)
bound_Pred count o t = ap (λ (m : Meaning). m.bound count) (meaning_Pred o t)

bound_Not : (count : (List ℕ → Values → Bool) → ℕ) (e : Expr) → bound (Not e) count ≡ count any_item
bound_Not count e = ap (λ (m : Meaning). m.bound count) (meaning_Not e)

bound_And : (count : (List ℕ → Values → Bool) → ℕ) (es : List Expr) → bound (And es) count ≡ bound_here (level.And (map meaning es)) count
bound_And count es = ap (λ (m : Meaning). m.bound count) (meaning_And es)

bound_Or : (count : (List ℕ → Values → Bool) → ℕ) (es : List Expr) → bound (Or es) count ≡ bound_here (level.Or (map meaning es)) count
bound_Or count es = ap (λ (m : Meaning). m.bound count) (meaning_Or es)

bound_Inter : (count : (List ℕ → Values → Bool) → ℕ) (es : List Expr) → bound (Inter es) count ≡ bound_here (level.Inter (map meaning es)) count
bound_Inter count es = ap (λ (m : Meaning). m.bound count) (meaning_Inter es)

pub all_attribute_rows : list_all has attribute_rows ≡ true
unfolding has_letters letters parts_of
all_attribute_rows = simp (bound_Pred, probes_Pred) refl

pub all_other_rows : list_all has other_rows ≡ true
all_other_rows = simp (bound_Pred, probes_Pred, bound_Not, probes_Not) refl

pub all_member_rows : list_all has member_rows ≡ true
all_member_rows = simp (bound_And, bound_Or, bound_Inter, probes_And, probes_Or, probes_Inter, probes_Pred) (simp (meaning_Pred) refl)
