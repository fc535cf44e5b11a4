-- The predicates of a tree, and what is seen of them in one pass.
use Rattle.std.proofs.Common.{◌≡◌, ℕ, suc, zero-add, ◌+◌, ◌<◌, ◌≤◌, Bool, true, false, not, ◌||◌, List, [], ◌∷◌, ◌++◌, length, drop, drop_of_length-le, get_or, map, fold, Option, Some, None, nat_lt, refl, sym, ap, ◌∙◌, arith}
use Rattle.std.specs.List.{flat_map, list_any}
use Rattle.std.proofs.lemmas.List.{at_drop_more}
use Rattle.std.proofs.lemmas.List.Sums.{fold-append}
use Rattle.std.proofs.lemmas.Bool.Decides.{nat_tests}
use Rattle.sdb_parse.specs.declared.expr.Expr.{Expr, fold-roll-Expr}
use Rattle.sdb_parse.specs.declared.expr.Expr.TheVariants.{Pred, Not, And, Or, Inter, rolls-Pred, rolls-Not, rolls-And, rolls-Or, rolls-Inter}
use Rattle.sdb_parse.specs.declared.expr.Expr.TheOpen as level
use Rattle.sdb_parse.specs.declared.expr.Operand.{Operand}
use Rattle.sdb_parse.specs.declared.judging.Tally.{Tally}
use Rattle.sdb_parse.specs.declared.select.Select.{Select}
use Rattle.sdb_parse.specs.declared.select.Sort.{Sort}
use Rattle.sdb_parse.specs.declared.select.SortKey.{SortKey}
use Rattle.sdb_parse.specs.declared.select.SortKey.TheVariants as key
use Rattle.sdb_parse.specs.declared.test.Test.{Test}
use Rattle.sdb_parse.specs.Judged.{Predicate, is_long, judged, may_sort, may_sort_by, names_of, predicates, predicates_here, predicates_of, stands_in, verdict}
use Rattle.sdb_parse.specs.Tally.{attr_of, by_attr, counted, is_attr, key_attr, nothing, one_more}

of_parts : (es : List Expr) → flat_map (λ m. m) (map predicates es) ≡ flat_map predicates es
of_parts [] = refl
of_parts (e ∷ es) = ap (λ l. predicates e ++ l) (of_parts es)

pub predicates-Pred : (o : Operand) (t : Test) → predicates (Pred o t) ≡ (o, t) ∷ []
unfolding predicates
predicates-Pred o t = ap predicates (sym (rolls-Pred o t)) ∙ fold-roll-Expr (List Predicate) predicates_here (level.Pred o t)

pub predicates-Not : (e : Expr) → predicates (Not e) ≡ predicates e
unfolding predicates
predicates-Not e = ap predicates (sym (rolls-Not e)) ∙ fold-roll-Expr (List Predicate) predicates_here (level.Not e)

pub predicates-And : (es : List Expr) → predicates (And es) ≡ flat_map predicates es
unfolding predicates
predicates-And es = ap predicates (sym (rolls-And es)) ∙ (fold-roll-Expr (List Predicate) predicates_here (level.And es) ∙ of_parts es)

pub predicates-Or : (es : List Expr) → predicates (Or es) ≡ flat_map predicates es
unfolding predicates
predicates-Or es = ap predicates (sym (rolls-Or es)) ∙ (fold-roll-Expr (List Predicate) predicates_here (level.Or es) ∙ of_parts es)

pub predicates-Inter : (es : List Expr) → predicates (Inter es) ≡ flat_map predicates es
unfolding predicates
predicates-Inter es = ap predicates (sym (rolls-Inter es)) ∙ (fold-roll-Expr (List Predicate) predicates_here (level.Inter es) ∙ of_parts es)

-- ---- the pass

pub is_many : (attr : List ℕ) (ps : List Predicate) (t : Tally) → nat_lt 20 ((fold (counted attr) t ps).predicates) ≡ nat_lt 20 (t.predicates + length ps)
is_many attr [] t = grind (arith, nat_tests)
is_many attr (p ∷ ps) t = is_many attr ps (counted attr t p) ∙ step t.predicates (length ps)
  where
    step : (n m : ℕ) → nat_lt 20 (one_more n + m) ≡ nat_lt 20 (n + suc m)
    step n m = grind (arith, nat_tests)

pub some_long : (attr : List ℕ) (ps : List Predicate) (t : Tally) → (fold (counted attr) t ps).is_long ≡ (t.is_long || list_any (λ p. is_long p.1) ps)
some_long attr [] t = or_false t.is_long
  where
    or_false : (b : Bool) → b ≡ (b || false)
    or_false true = refl
    or_false false = refl
some_long attr (p ∷ ps) t = some_long attr ps (counted attr t p) ∙ or_or t.is_long (is_long p.1) (list_any (λ q. is_long q.1) ps)
  where
    or_or : (a b c : Bool) → ((a || b) || c) ≡ (a || (b || c))
    or_or true b c = refl
    or_or false b c = refl

pub some_stands : (attr : List ℕ) (ps : List Predicate) (t : Tally) → (fold (counted attr) t ps).stands ≡ (t.stands || list_any (stands_in attr) ps)
some_stands attr [] t = or_false t.stands
  where
    or_false : (b : Bool) → b ≡ (b || false)
    or_false true = refl
    or_false false = refl
some_stands attr (p ∷ ps) t = some_stands attr ps (counted attr t p) ∙ or_or t.stands (stands_in attr p) (list_any (stands_in attr) ps)
  where
    or_or : (a b c : Bool) → ((a || b) || c) ≡ (a || (b || c))
    or_or true b c = refl
    or_or false b c = refl

sorts : (ps : List Predicate) (sort : Option Sort) → may_sort ps sort ≡ (not (by_attr sort) || list_any (stands_in (attr_of sort)) ps)
sorts ps None = refl
sorts ps (Some sort) = by_key sort.by
  where
    by_key : (k : SortKey) → may_sort_by ps k ≡ (not (is_attr k) || list_any (stands_in (key_attr k)) ps)
    by_key key.ItemName = refl
    by_key (key.Attr name) = refl

pub judged_is : (s : Select) → judged s ≡ (let seen : Tally = fold (counted (attr_of s.sort)) nothing (predicates_of s.cond) in
    verdict (nat_lt 256 (names_of s.output)) (nat_lt 20 seen.predicates) seen.is_long (not (by_attr s.sort) || seen.stands))
unfolding judged
judged_is s =
    let ps = predicates_of s.cond in
    let attr = attr_of s.sort in
    let names = nat_lt 256 (names_of s.output) in
    ap (λ b. verdict names b (list_any (λ p. is_long p.1) ps) (may_sort ps s.sort)) (many ps (is_many attr ps nothing))
    ∙ (ap (λ b. verdict names (nat_lt 20 ((fold (counted attr) nothing ps).predicates)) b (may_sort ps s.sort)) (sym (some_long attr ps nothing))
    ∙ ap (λ b. verdict names (nat_lt 20 ((fold (counted attr) nothing ps).predicates)) ((fold (counted attr) nothing ps).is_long) b)
    (sorts ps s.sort ∙ ap (λ b. not (by_attr s.sort) || b) (sym (some_stands attr ps nothing))))
  where
    many : {x : Bool} (ps : List Predicate) → x ≡ nat_lt 20 (0 + length ps) → nat_lt 20 (length ps) ≡ x
    many ps e = ap (nat_lt 20) (sym (zero-add (length ps))) ∙ sym e

-- ---- the loop over members

pub survey_on : (attr : List ℕ) (seen now all : Tally) (ms : List Expr) (i : ℕ) (m : Expr) → i < length ms → m ≡ get_or ms i m → now ≡ fold (counted attr) seen (predicates m) →
    fold (counted attr) seen (flat_map predicates (drop i ms)) ≡ all → fold (counted attr) now (flat_map predicates (drop (i + 1) ms)) ≡ all
survey_on attr seen now all ms i m within is counts so_far =
    let rest = flat_map predicates (drop (i + 1) ms) in
    ap (λ t. fold (counted attr) t rest) counts
    ∙ (sym (fold-append (counted attr) seen (predicates m) rest)
    ∙ (ap (λ e. fold (counted attr) seen (predicates e ++ rest)) is
    ∙ (sym (at_drop_more (λ l. fold (counted attr) seen (flat_map predicates l)) ms i m within) ∙ so_far)))

pub survey_end : (attr : List ℕ) (seen all : Tally) (ms : List Expr) (i : ℕ) → length ms ≤ i → fold (counted attr) seen (flat_map predicates (drop i ms)) ≡ all → seen ≡ all
survey_end attr seen all ms i over so_far = sym (ap (λ l. fold (counted attr) seen (flat_map predicates l)) (drop_of_length-le ms over)) ∙ so_far

pub ruleset predicates_laws = (predicates-Pred, predicates-Not, predicates-And, predicates-Or, predicates-Inter)
