-- A tree that a text spells is lawful.
use Rattle.std.proofs.Common.{◌≡◌, ℕ, suc, ◌≤◌, Bool, true, false, not, ◌&&◌, ◌==◌, List, [], ◌∷◌, length, map, Option, Some, None, nat_le, if◌then◌else◌, refl, sym, ap, ap₂, subst, ◌∙◌, arith}
use Rattle.std.specs.List.{list_all}
use Rattle.std.proofs.lemmas.Bool.Decides.{nat_tests}
use Rattle.sdb_base.specs.Decimal.{decimal_of, is_decimal, value_after}
use Rattle.sdb_parse.specs.declared.expr.Expr.{Expr, fold-roll-Expr}
use Rattle.sdb_parse.specs.declared.expr.Expr.TheVariants.{Pred, Not, rolls-Pred, rolls-Not, rolls-And, rolls-Or, rolls-Inter}
use Rattle.sdb_parse.specs.declared.expr.Expr.TheOpen as level
use Rattle.sdb_parse.specs.declared.expr.Operand.{Operand}
use Rattle.sdb_parse.specs.declared.joint.Joint.{Joint}
use Rattle.sdb_parse.specs.declared.joint.Joint.TheVariants as joint
use Rattle.sdb_parse.specs.declared.select.Select.{Select}
use Rattle.sdb_parse.specs.declared.select.Sort.{Sort}
use Rattle.sdb_parse.specs.declared.term.Term.{Term}
use Rattle.sdb_parse.specs.declared.test.Test.{Test}
use Rattle.sdb_parse.specs.Conditions.{is_every, is_null_test, join, joined_by}
use Rattle.sdb_parse.specs.Grammar.{Rule, Unary, Joined, member, Spells, predicate, negated, grouped, joined, More, no_more, one_more, most_depth, limit_of, lawful_limit, IsLimit, no_limit, limited, IsSorted, no_sort, sorted, IsFiltered, no_condition, filtered, IsSelect, select}
use Rattle.sdb_parse.specs.Lawful.{IsLawful, are_lawful, has_lawful_cond, has_lawful_limit, is_lawful, lawful_here}
use Rattle.sdb_parse.proofs.SoundLemmas.{not_none, on_some}

all_parts : (es : List Expr) → list_all (λ m. m) (map is_lawful es) ≡ list_all is_lawful es
all_parts [] = refl
all_parts (e ∷ es) = ap (λ b. is_lawful e && b) (all_parts es)

as_many : (es : List Expr) → length (map is_lawful es) ≡ length es
as_many [] = refl
as_many (e ∷ es) = ap suc (as_many es)

two_parts : (es : List Expr) → 2 ≤ length es → list_all is_lawful es ≡ true → are_lawful (map is_lawful es) ≡ true
two_parts es two all = ap₂ (λ a b. a && b) (ap (nat_le 2) (as_many es) ∙ le_true (length es) two) (all_parts es ∙ all)
  where
    le_true : (n : ℕ) → 2 ≤ n → nat_le 2 n ≡ true
    le_true n h = grind (arith, nat_tests)

lawful-joined : (j : Joint) (es : List Expr) → 2 ≤ length es → list_all is_lawful es ≡ true → is_lawful (joined_by j es) ≡ true
unfolding is_lawful
lawful-joined joint.Or es two all = ap is_lawful (sym (rolls-Or es)) ∙ (fold-roll-Expr Bool lawful_here (level.Or es) ∙ two_parts es two all)
lawful-joined joint.And es two all = ap is_lawful (sym (rolls-And es)) ∙ (fold-roll-Expr Bool lawful_here (level.And es) ∙ two_parts es two all)
lawful-joined joint.Inter es two all = ap is_lawful (sym (rolls-Inter es)) ∙ (fold-roll-Expr Bool lawful_here (level.Inter es) ∙ two_parts es two all)

lawful-Pred : (o : Operand) (t : Test) → (is_every o && is_null_test t) ≡ false → is_lawful (Pred o t) ≡ true
unfolding is_lawful
lawful-Pred o t e = ap is_lawful (sym (rolls-Pred o t)) ∙ (fold-roll-Expr Bool lawful_here (level.Pred o t) ∙ ap not e)

lawful-Not : (e : Expr) → is_lawful e ≡ true → is_lawful (Not e) ≡ true
unfolding is_lawful
lawful-Not e h = ap is_lawful (sym (rolls-Not e)) ∙ (fold-roll-Expr Bool lawful_here (level.Not e) ∙ h)

lawful_join : (j : Joint) (first : Expr) (es : List Expr) → is_lawful first ≡ true → list_all is_lawful es ≡ true → is_lawful (join j first es) ≡ true
lawful_join j first [] one all = one
lawful_join j first (e ∷ es) one all = lawful-joined j (first ∷ e ∷ es) (omega arith) (ap₂ (λ a b. a && b) one all)

mutual
  spells_lawful : (r : Rule) (d : ℕ) (ts : List Term) (e : Expr) (rest : List Term) → Spells r d ts e rest → is_lawful e ≡ true
  spells_lawful _ _ _ _ _ (predicate d ts mid rest o t is_o is_t lawful) = lawful-Pred o t lawful
  spells_lawful _ _ _ _ _ (negated d n ts rest e is inner) = lawful-Not e (spells_lawful Unary d ts e rest inner)
  spells_lawful _ _ _ _ _ (grouped d o c ts rest e is_o inner is_c) = spells_lawful (Joined joint.Or) d ts e (c ∷ rest) inner
  spells_lawful _ _ _ _ _ (joined j d ts mid rest first es is after) = lawful_join j first es (spells_lawful (member j) d ts first mid is) (more_lawful j d mid es rest after)

  more_lawful : (j : Joint) (d : ℕ) (ts : List Term) (es : List Expr) (rest : List Term) → More j d ts es rest → list_all is_lawful es ≡ true
  more_lawful _ _ _ _ _ (no_more j d rest) = refl
  more_lawful _ _ _ _ _ (one_more j d s ts mid rest f es is first after) = ap₂ (λ a b. a && b) (spells_lawful (member j) d ts f mid first) (more_lawful j d mid es rest after)

-- ---- the limit

bounded : (a b : Bool) (v m : ℕ) → b ≡ nat_le v 2500 → (if a && b then Some v else None) ≡ Some m → nat_le m 2500 ≡ true
bounded true true v m e h = ap (λ n. nat_le n 2500) (sym (on_some v m h)) ∙ sym e
bounded true false v m e h = absurd (not_none m h)
bounded false b v m e h = absurd (not_none m h)

positive : (v : ℕ) → false ≡ (v == 0) → nat_le 1 v ≡ true
positive v e = grind (arith, nat_tests)

nonzero : (z : Bool) (v n : ℕ) → z ≡ (v == 0) → nat_le v 2500 ≡ true → (if z then None else Some v) ≡ Some n → has_lawful_limit (Some n) ≡ true
nonzero true v n e most h = absurd (not_none n h)
nonzero false v n e most h = subst (λ k. has_lawful_limit (Some k) ≡ true) (on_some v n h) (ap₂ (λ a b. a && b) (positive v e) most)

range : (o : Option ℕ) → ((m : ℕ) → o ≡ Some m → nat_le m 2500 ≡ true) → (n : ℕ) → lawful_limit o ≡ Some n → has_lawful_limit (Some n) ≡ true
range None most n e = absurd (not_none n e)
range (Some m) most n e = nonzero (m == 0) m n refl (most m refl) e

pub limit_lawful : (text : List ℕ) (n : ℕ) → limit_of text ≡ Some n → has_lawful_limit (Some n) ≡ true
unfolding limit_of
limit_lawful text n e = range (decimal_of text 2500) (λ m h. bounded (is_decimal text) (nat_le (value_after 0 text) 2500) (value_after 0 text) m refl h) n e

-- ---- the whole

ends_lawful : (ts : List Term) (limit : Option ℕ) → IsLimit ts limit → has_lawful_limit limit ≡ true
ends_lawful _ _ no_limit = refl
ends_lawful _ _ (limited w d n is_w is_d is) = limit_lawful d.text n is

sorted_lawful : (ts : List Term) (sort : Option Sort) (limit : Option ℕ) → IsSorted ts sort limit → has_lawful_limit limit ≡ true
sorted_lawful _ _ _ (no_sort ts limit is) = ends_lawful ts limit is
sorted_lawful _ _ _ (sorted o b ts mid rest by down limit is_o is_b is_key is_down is) = ends_lawful rest limit is

filtered_lawful : (ts : List Term) (cond : Option Expr) (sort : Option Sort) (limit : Option ℕ) → IsFiltered ts cond sort limit → (has_lawful_cond cond ≡ true) × (has_lawful_limit limit ≡ true)
filtered_lawful _ _ _ _ (no_condition ts sort limit is) = (refl, sorted_lawful ts sort limit is)
filtered_lawful _ _ _ _ (filtered w ts mid e sort limit is_w is_e is) = (spells_lawful (Joined joint.Or) most_depth ts e mid is_e, sorted_lawful mid sort limit is)

pub select_lawful : (ts : List Term) (s : Select) → IsSelect ts s → IsLawful s
select_lawful _ _ (select s f ts mid rest out domain cond sort limit is_s is_out is_f is_domain is) =
    let both = filtered_lawful rest cond sort limit is in record { cond = both.0; limit = both.1 }
