-- The printed form of a condition spells it, within the same depth.
use Rattle.std.proofs.Common.{◌≡◌, ℕ, zero, suc, ◌+◌, ◌<◌, ◌≤◌, Bool, true, false, ◌&&◌, List, [], ◌∷◌, ◌++◌, map, codes, nat_le, if◌then◌else◌, refl, sym, ap, subst, ◌∙◌, arith, append_assoc}
use Rattle.std.specs.List.{flat_map, join_by}
use Rattle.std.proofs.lemmas.Bool.Decides.{nat_tests}
use Rattle.sdb_parse.specs.declared.expr.Expr.{Expr}
use Rattle.sdb_parse.specs.declared.expr.Expr.TheVariants as tree
use Rattle.sdb_parse.specs.declared.expr.Operand.{Operand}
use Rattle.sdb_parse.specs.declared.joint.Joint.{Joint}
use Rattle.sdb_parse.specs.declared.joint.Joint.TheVariants as joint
use Rattle.sdb_parse.specs.declared.sign.Sign.TheVariants as sign
use Rattle.sdb_parse.specs.declared.term.Term.{Term}
use Rattle.sdb_parse.specs.declared.test.Test.{Test}
use Rattle.sdb_parse.specs.Conditions.{is_every, is_null_test, join, joined_by, separator}
use Rattle.sdb_parse.specs.Grammar.{IsOperand, IsTest, Rule, Unary, Joined, member, Spells, predicate, negated, grouped, joined, More, no_more, one_more}
use Rattle.sdb_parse.specs.Printed.{Shown, member_text, operand_text, shown, test_text}
use Rattle.sdb_parse.specs.Signs.{sign_of, words}
use Rattle.sdb_parse.proofs.LexedLemmas.{Writes, Then, both, writes_both, writes_as, Begun, begun, word_written}
use Rattle.sdb_parse.proofs.PrintedLemmas.{shown_Pred, shown_Not, shown_Inter, shown_And, shown_Or}
use Rattle.sdb_parse.proofs.PrintedParts.{and_written, close_written, not_written, open_written, operand_written, test_written}

-- ---- rules

-- how loosely what a rule joins binds
abbrev pub rank : Rule → ℕ
rank Unary = 0
rank (Joined joint.Inter) = 1
rank (Joined joint.And) = 2
rank (Joined joint.Or) = 3

-- the rule of what binds so loosely
abbrev pub rule_of : ℕ → Rule
rule_of zero = Unary
rule_of (suc zero) = Joined joint.Inter
rule_of (suc (suc zero)) = Joined joint.And
rule_of (suc (suc (suc n))) = Joined joint.Or

-- one member is what its rule joins
up : (j : Joint) (d : ℕ) (ts : List Term) (e : Expr) (us : List Term) → Spells (member j) d ts e us → Spells (Joined j) d ts e us
up j d ts e us is = joined j d ts us us e [] is (no_more j d us)

to_inter : (d : ℕ) (ts : List Term) (e : Expr) (us : List Term) → Spells Unary d ts e us → Spells (Joined joint.Inter) d ts e us
to_inter d ts e us is = up joint.Inter d ts e us is

to_and : (d : ℕ) (ts : List Term) (e : Expr) (us : List Term) → Spells (Joined joint.Inter) d ts e us → Spells (Joined joint.And) d ts e us
to_and d ts e us is = up joint.And d ts e us is

to_or : (d : ℕ) (ts : List Term) (e : Expr) (us : List Term) → Spells (Joined joint.And) d ts e us → Spells (Joined joint.Or) d ts e us
to_or d ts e us is = up joint.Or d ts e us is

-- what binds tighter may stand by a looser rule
lifted : (n : ℕ) (r : Rule) → n ≤ rank r → (d : ℕ) (ts : List Term) (e : Expr) (us : List Term) → Spells (rule_of n) d ts e us → Spells r d ts e us
lifted zero Unary h d ts e us is = is
lifted zero (Joined joint.Inter) h d ts e us is = to_inter d ts e us is
lifted zero (Joined joint.And) h d ts e us is = to_and d ts e us (to_inter d ts e us is)
lifted zero (Joined joint.Or) h d ts e us is = to_or d ts e us (to_and d ts e us (to_inter d ts e us is))
lifted (suc zero) Unary h d ts e us is = absurd (omega arith)
lifted (suc zero) (Joined joint.Inter) h d ts e us is = is
lifted (suc zero) (Joined joint.And) h d ts e us is = to_and d ts e us is
lifted (suc zero) (Joined joint.Or) h d ts e us is = to_or d ts e us (to_and d ts e us is)
lifted (suc (suc zero)) Unary h d ts e us is = absurd (omega arith)
lifted (suc (suc zero)) (Joined joint.Inter) h d ts e us is = absurd (omega arith)
lifted (suc (suc zero)) (Joined joint.And) h d ts e us is = is
lifted (suc (suc zero)) (Joined joint.Or) h d ts e us is = to_or d ts e us is
lifted (suc (suc (suc n))) Unary h d ts e us is = absurd (omega arith)
lifted (suc (suc (suc n))) (Joined joint.Inter) h d ts e us is = absurd (omega arith)
lifted (suc (suc (suc n))) (Joined joint.And) h d ts e us is = absurd (omega arith)
lifted (suc (suc (suc n))) (Joined joint.Or) h d ts e us is = is

-- a greater depth is allowed where a smaller one is
mutual
  deeper : (r : Rule) (d : ℕ) (ts : List Term) (e : Expr) (us : List Term) → Spells r d ts e us → Spells r (suc d) ts e us
  deeper _ _ _ _ _ (predicate d ts mid rest o t is_o is_t lawful) = predicate (suc d) ts mid rest o t is_o is_t lawful
  deeper _ _ _ _ _ (negated d n ts rest e is inner) = negated (suc d) n ts rest e is (deeper Unary d ts e rest inner)
  deeper _ _ _ _ _ (grouped d o c ts rest e is_o inner is_c) = grouped (suc d) o c ts rest e is_o (deeper (Joined joint.Or) d ts e (c ∷ rest) inner) is_c
  deeper _ _ _ _ _ (joined j d ts mid rest first es is after) = joined j (suc d) ts mid rest first es (deeper (member j) d ts first mid is) (more_deeper j d mid es rest after)

  more_deeper : (j : Joint) (d : ℕ) (ts : List Term) (es : List Expr) (us : List Term) → More j d ts es us → More j (suc d) ts es us
  more_deeper _ _ _ _ _ (no_more j d rest) = no_more j (suc d) rest
  more_deeper _ _ _ _ _ (one_more j d s ts mid rest e es is first after) = one_more j (suc d) s ts mid rest e es is (deeper (member j) d ts e mid first) (more_deeper j d mid es rest after)

-- ---- one condition

-- that form of a condition spells it
abbrev pub Prints_as : Shown → ℕ → Expr → Type 0
Prints_as form d e = Writes form.text (λ ts us. Spells (rule_of form.looseness) d ts e us)

-- the printed form without parentheses round it
abbrev pub Prints : ℕ → Expr → Type 0
Prints d e = Prints_as (shown e) d e

prints_deeper : (d : ℕ) (e : Expr) → Prints d e → Prints (suc d) e
prints_deeper d e p = writes_as (λ ts us. Spells (rule_of (shown e).looseness) d ts e us) (λ ts us. Spells (rule_of (shown e).looseness) (suc d) ts e us) (shown e).text (λ ts us is. deeper (rule_of (shown e).looseness) d ts e us is) p

-- a condition stands by a rule as it is, or needs parentheses
pub data Stands : Rule → ℕ → Expr → Type 0 where
  as_it_is : (r : Rule) (d : ℕ) (e : Expr) → (shown e).looseness ≤ rank r → Prints d e → Stands r d e
  in_parentheses : (r : Rule) (d : ℕ) (e : Expr) → Prints d e → Stands r (suc d) e

bare_written : (r : Rule) (d : ℕ) (e : Expr) → nat_le (rank r + 1) (shown e).looseness ≡ false → Prints d e → Writes (member_text (rank r + 1) (shown e)) (λ ts us. Spells r d ts e us)
bare_written r d e tight p =
    subst (λ b. Writes (if b then codes " (" ++ ((shown e).text ++ codes " )") else (shown e).text) (λ ts us. Spells r d ts e us)) (sym tight)
    (writes_as (λ ts us. Spells (rule_of (shown e).looseness) d ts e us) (λ ts us. Spells r d ts e us) (shown e).text (λ ts us is. lifted (shown e).looseness r (at_most (shown e).looseness (rank r) tight) d ts e us is) p)
  where
    at_most : (n m : ℕ) → nat_le (m + 1) n ≡ false → n ≤ m
    at_most n m h = grind (arith, nat_tests)

-- whatever a condition is, `or` joins it
widest : (n d : ℕ) (ts : List Term) (e : Expr) (us : List Term) → Spells (rule_of n) d ts e us → Spells (Joined joint.Or) d ts e us
widest zero d ts e us is = to_or d ts e us (to_and d ts e us (to_inter d ts e us is))
widest (suc zero) d ts e us is = to_or d ts e us (to_and d ts e us is)
widest (suc (suc zero)) d ts e us is = to_or d ts e us is
widest (suc (suc (suc n))) d ts e us is = is

group_is : (r : Rule) (d : ℕ) (e : Expr) (n : ℕ) (ts us : List Term) → Then (Begun sign.Open) (Then (λ vs ws. Spells (rule_of n) d vs e ws) (Begun sign.Close)) ts us → Spells r (suc d) ts e us
group_is r d e n _ _ (both _ _ us (begun o _ is_o) (both ts _ _ is (begun c _ is_c))) =
    lifted 0 r (omega arith) (suc d) (o ∷ ts) e us (grouped d o c ts us e is_o (widest n d ts e (c ∷ us) is) is_c)

group_written : (r : Rule) (d : ℕ) (e : Expr) → Prints d e → Writes (codes " (" ++ ((shown e).text ++ codes " )")) (λ ts us. Spells r (suc d) ts e us)
group_written r d e p =
    let Inner : List Term → List Term → Type 0 = λ vs ws. Spells (rule_of (shown e).looseness) d vs e ws in
    writes_as (Then (Begun sign.Open) (Then Inner (Begun sign.Close))) (λ ts us. Spells r (suc d) ts e us) (codes " (" ++ ((shown e).text ++ codes " )")) (group_is r d e (shown e).looseness)
    (writes_both (Begun sign.Open) (Then Inner (Begun sign.Close)) (codes " (") ((shown e).text ++ codes " )") open_written (writes_both Inner (Begun sign.Close) (shown e).text (codes " )") p close_written))

either_written : (r : Rule) (d : ℕ) (e : Expr) (b : Bool) → nat_le (rank r + 1) (shown e).looseness ≡ b → Prints d e → Writes (member_text (rank r + 1) (shown e)) (λ ts us. Spells r (suc d) ts e us)
either_written r d e true loose p =
    subst (λ b. Writes (if b then codes " (" ++ ((shown e).text ++ codes " )") else (shown e).text) (λ ts us. Spells r (suc d) ts e us)) (sym loose) (group_written r d e p)
either_written r d e false tight p = bare_written r (suc d) e tight (prints_deeper d e p)

tight_at : (n m : ℕ) → n ≤ m → nat_le (m + 1) n ≡ false
tight_at n m h = grind (arith, nat_tests)

pub member_written : (r : Rule) (d : ℕ) (e : Expr) → Stands r d e → Writes (member_text (rank r + 1) (shown e)) (λ ts us. Spells r d ts e us)
member_written _ _ _ (as_it_is r d e tight p) = bare_written r d e (tight_at (shown e).looseness (rank r) tight) p
member_written _ _ _ (in_parentheses r d e p) = either_written r d e (nat_le (rank r + 1) (shown e).looseness) refl p

-- what stands by the rule of a member stands where members are joined
member_rank : (j : Joint) → rank (member j) ≤ rank (Joined j)
member_rank joint.Or = omega arith
member_rank joint.And = omega arith
member_rank joint.Inter = omega arith

stands_up : (j : Joint) (r : Rule) (d : ℕ) (e : Expr) → r ≡ member j → Stands r d e → Stands (Joined j) d e
stands_up j _ _ _ same (as_it_is r d e tight p) = as_it_is (Joined j) d e (let h : rank r ≡ rank (member j) = ap rank same in let up : rank (member j) ≤ rank (Joined j) = member_rank j in omega arith) p
stands_up j _ _ _ same (in_parentheses r d e p) = in_parentheses (Joined j) d e p

stands_grouped : (r : Rule) (d : ℕ) (e : Expr) → Stands r d e → Stands Unary (suc d) e
stands_grouped _ _ _ (as_it_is r d e tight p) = in_parentheses Unary d e p
stands_grouped _ _ _ (in_parentheses r d e p) = in_parentheses Unary (suc d) e (prints_deeper d e p)

-- ---- each kind of condition

-- by the form that is shown
stands_as : (r : Rule) (d : ℕ) (e : Expr) (form : Shown) → shown e ≡ form → form.looseness ≤ rank r → Prints_as form d e → Stands r d e
stands_as r d e form is tight p = as_it_is r d e (let same : (shown e).looseness ≡ form.looseness = ap (λ f. f.looseness) is in omega arith) (subst (λ f. Prints_as f d e) (sym is) p)

predicate_is : (d : ℕ) (o : Operand) (t : Test) → (is_every o && is_null_test t) ≡ false → (ts us : List Term) → Then (λ vs ws. IsOperand vs o ws) (λ vs ws. IsTest vs t ws) ts us → Spells Unary d ts (tree.Pred o t) us
predicate_is d o t lawful _ _ (both ts mid us is_o is_t) = predicate d ts mid us o t is_o is_t lawful

predicate_stands : (d : ℕ) (o : Operand) (t : Test) → (is_every o && is_null_test t) ≡ false → Writes (operand_text o) (λ vs ws. IsOperand vs o ws) → Writes (test_text t) (λ vs ws. IsTest vs t ws) → Stands Unary d (tree.Pred o t)
predicate_stands d o t lawful wo wt =
    stands_as Unary d (tree.Pred o t) (record { looseness = 0; text = operand_text o ++ test_text t }) (shown_Pred o t) (omega arith)
    (writes_as (Then (λ vs ws. IsOperand vs o ws) (λ vs ws. IsTest vs t ws)) (λ ts us. Spells Unary d ts (tree.Pred o t) us) (operand_text o ++ test_text t) (predicate_is d o t lawful)
    (writes_both (λ vs ws. IsOperand vs o ws) (λ vs ws. IsTest vs t ws) (operand_text o) (test_text t) wo wt))

negated_is : (d : ℕ) (e : Expr) (ts us : List Term) → Then (Begun sign.Not) (λ vs ws. Spells Unary d vs e ws) ts us → Spells Unary (suc d) ts (tree.Not e) us
negated_is d e _ _ (both _ _ us (begun n ts is_n) is) = negated d n ts us e is_n is

negated_stands : (d : ℕ) (e : Expr) → Stands Unary d e → Stands Unary (suc d) (tree.Not e)
negated_stands d e inner =
    stands_as Unary (suc d) (tree.Not e) (record { looseness = 0; text = codes " not" ++ member_text 1 (shown e) }) (shown_Not e) (omega arith)
    (writes_as (Then (Begun sign.Not) (λ vs ws. Spells Unary d vs e ws)) (λ ts us. Spells Unary (suc d) ts (tree.Not e) us) (codes " not" ++ member_text 1 (shown e)) (negated_is d e)
    (writes_both (Begun sign.Not) (λ vs ws. Spells Unary d vs e ws) (codes " not") (member_text 1 (shown e)) not_written (member_written Unary d e inner)))

-- the word between members
word_of : Joint → List ℕ
word_of joint.Or = codes " or"
word_of joint.And = codes " and"
word_of joint.Inter = codes " intersection"

word_of_written : (j : Joint) → Writes (word_of j) (Begun (separator j))
unfolding word_of sign_of words
word_of_written joint.Or = word_written (codes "or") sign.Or refl refl
word_of_written joint.And = word_written (codes "and") sign.And refl refl
word_of_written joint.Inter = word_written (codes "intersection") sign.Intersection refl refl

members_text : Joint → Expr → List Expr → List ℕ
members_text j first es = member_text (rank (member j) + 1) (shown first) ++ flat_map (λ form. word_of j ++ member_text (rank (member j) + 1) form) (map shown es)

shown_joined : (j : Joint) (first : Expr) (es : List Expr) → shown (joined_by j (first ∷ es)) ≡ record { looseness = rank (Joined j); text = members_text j first es }
unfolding word_of members_text
shown_joined joint.Or first es = shown_Or (first ∷ es)
shown_joined joint.And first es = shown_And (first ∷ es)
shown_joined joint.Inter first es = shown_Inter (first ∷ es)

rule_back : (j : Joint) → rule_of (rank (Joined j)) ≡ Joined j
rule_back joint.Or = refl
rule_back joint.And = refl
rule_back joint.Inter = refl

-- members after the first, each after its word
abbrev others_text : Joint → List Expr → List ℕ
others_text j es = flat_map (λ form. word_of j ++ member_text (rank (member j) + 1) form) (map shown es)

more_is : (j : Joint) (d : ℕ) (e : Expr) (es : List Expr) (ts us : List Term) →
    Then (Then (Begun (separator j)) (λ vs ws. Spells (member j) d vs e ws)) (λ vs ws. More j d vs es ws) ts us → More j d ts (e ∷ es) us
more_is j d e es _ _ (both _ mid us (both _ ts _ (begun s _ is_s) is) more) = one_more j d s ts mid us e es is_s is more

none_written : (j : Joint) (d : ℕ) → Writes [] (λ vs ws. More j d vs [] ws)
none_written j d rest us spaced lexed = record { terms = us; lexed = lexed; spaced = spaced; is = no_more j d us }

more_written : (j : Joint) (d : ℕ) (e : Expr) (es : List Expr) → Stands (member j) d e → Writes (others_text j es) (λ vs ws. More j d vs es ws) → Writes (others_text j (e ∷ es)) (λ vs ws. More j d vs (e ∷ es) ws)
more_written j d e es stands others =
    let One : List Term → List Term → Type 0 = λ vs ws. Spells (member j) d vs e ws in
    let Others : List Term → List Term → Type 0 = λ vs ws. More j d vs es ws in
    let one : List ℕ = member_text (rank (member j) + 1) (shown e) in
    writes_as (Then (Then (Begun (separator j)) One) Others) (λ vs ws. More j d vs (e ∷ es) ws) ((word_of j ++ one) ++ others_text j es) (more_is j d e es)
    (writes_both (Then (Begun (separator j)) One) Others (word_of j ++ one) (others_text j es)
    (writes_both (Begun (separator j)) One (word_of j) one (word_of_written j) (member_written (member j) d e stands)) others)

joined_is : (j : Joint) (d : ℕ) (first : Expr) (es : List Expr) (ts us : List Term) → Then (λ vs ws. Spells (member j) d vs first ws) (λ vs ws. More j d vs es ws) ts us → Spells (Joined j) d ts (join j first es) us
joined_is j d first es _ _ (both ts mid us is more) = joined j d ts mid us first es is more

joined_stands : (j : Joint) (d : ℕ) (first : Expr) (es : List Expr) → Stands (member j) d first → Writes (others_text j es) (λ vs ws. More j d vs es ws) → Stands (Joined j) d (join j first es)
unfolding members_text
joined_stands j d first [] stands others = stands_up j (member j) d first refl stands
joined_stands j d first (e ∷ es) stands others =
    let One : List Term → List Term → Type 0 = λ vs ws. Spells (member j) d vs first ws in
    let Others : List Term → List Term → Type 0 = λ vs ws. More j d vs (e ∷ es) ws in
    let one : List ℕ = member_text (rank (member j) + 1) (shown first) in
    stands_as (Joined j) d (joined_by j (first ∷ e ∷ es)) (record { looseness = rank (Joined j); text = members_text j first (e ∷ es) }) (shown_joined j first (e ∷ es)) (omega arith)
    (subst (λ r. Writes (members_text j first (e ∷ es)) (λ ts us. Spells r d ts (joined_by j (first ∷ e ∷ es)) us)) (sym (rule_back j))
    (writes_as (Then One Others) (λ ts us. Spells (Joined j) d ts (joined_by j (first ∷ e ∷ es)) us) (one ++ others_text j (e ∷ es)) (joined_is j d first (e ∷ es))
    (writes_both One Others one (others_text j (e ∷ es)) (member_written (member j) d first stands) others)))

-- ---- all conditions

mutual
  pub stands : (r : Rule) (d : ℕ) (ts : List Term) (e : Expr) (us : List Term) → Spells r d ts e us → Stands r d e
  stands _ _ _ _ _ (predicate d ts mid rest o t is_o is_t lawful) = predicate_stands d o t lawful (operand_written ts o mid is_o) (test_written mid t rest is_t)
  stands _ _ _ _ _ (negated d n ts rest e is inner) = negated_stands d e (stands Unary d ts e rest inner)
  stands _ _ _ _ _ (grouped d o c ts rest e is_o inner is_c) = stands_grouped (Joined joint.Or) d e (stands (Joined joint.Or) d ts e (c ∷ rest) inner)
  stands _ _ _ _ _ (joined j d ts mid rest first es is after) = joined_stands j d first es (stands (member j) d ts first mid is) (others_stand j d mid es rest after)

  others_stand : (j : Joint) (d : ℕ) (ts : List Term) (es : List Expr) (us : List Term) → More j d ts es us → Writes (others_text j es) (λ vs ws. More j d vs es ws)
  others_stand _ _ _ _ _ (no_more j d rest) = none_written j d
  others_stand _ _ _ _ _ (one_more j d s ts mid rest e es is first after) = more_written j d e es (stands (member j) d ts e mid first) (others_stand j d mid es rest after)

-- a condition under `where`
pub condition_written : (d : ℕ) (ts : List Term) (e : Expr) (us : List Term) → Spells (Joined joint.Or) d ts e us → Writes (member_text 4 (shown e)) (λ vs ws. Spells (Joined joint.Or) d vs e ws)
condition_written d ts e us is = member_written (Joined joint.Or) d e (stands (Joined joint.Or) d ts e us is)
