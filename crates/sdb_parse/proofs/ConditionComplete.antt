-- Conditions that the grammar has are what readers give.
use Rattle.std.proofs.Common.{◌≡◌, ℕ, zero, suc, ◌<◌, ◌≤◌, false, List, ◌∷◌, length, Some, refl, sym, ◌∙◌, arith}
use Rattle.sdb_parse.specs.declared.expr.Expr.{Expr}
use Rattle.sdb_parse.specs.declared.expr.Expr.TheVariants as tree
use Rattle.sdb_parse.specs.declared.joint.Joint.{Joint}
use Rattle.sdb_parse.specs.declared.joint.Joint.TheVariants as joint
use Rattle.sdb_parse.specs.declared.sign.Sign.TheVariants as sign
use Rattle.sdb_parse.specs.declared.term.Term.{Term}
use Rattle.sdb_parse.specs.Reading.{Reader, expect, listed, more, sees}
use Rattle.sdb_parse.specs.Conditions.{grouped_by, join, join_of, joined_at, joined_with, member_at, negated_by, separator, unary_at, whole}
use Rattle.sdb_parse.specs.Grammar.{Rule, Unary, Joined, member, Spells, predicate, negated, grouped, joined, More, no_more, one_more}
use Rattle.sdb_parse.proofs.ConditionLemmas.{chain_some, joined_is, unary_plain}
use Rattle.sdb_parse.proofs.CompleteLemmas.{if_yes, if_no, expect_yes, sees_yes, sees_no, turn, last_turn, whole_list}
use Rattle.sdb_parse.proofs.PredicateComplete.{operand_sees, operand_shorter, test_shorter, predicate_complete}

abbrev reads : Rule → ℕ → Reader Expr
reads Unary d = unary_at d
reads (Joined j) d = joined_at j d

-- no sign that joins by the rule or by a tighter one follows
abbrev pub Ends : Rule → List Term → Type 0
Ends Unary rest = Unit {0}
Ends (Joined joint.Or) rest = (sees sign.Or rest ≡ false) × (sees sign.And rest ≡ false) × (sees sign.Intersection rest ≡ false)
Ends (Joined joint.And) rest = (sees sign.And rest ≡ false) × (sees sign.Intersection rest ≡ false)
Ends (Joined joint.Inter) rest = sees sign.Intersection rest ≡ false

ends_own : (j : Joint) (rest : List Term) → Ends (Joined j) rest → sees (separator j) rest ≡ false
ends_own joint.Or rest e = e.0
ends_own joint.And rest e = e.0
ends_own joint.Inter rest e = e

ends_member : (j : Joint) (rest : List Term) → Ends (Joined j) rest → Ends (member j) rest
ends_member joint.Or rest e = (e.1, e.2)
ends_member joint.And rest e = e.1
ends_member joint.Inter rest e = tt

-- a member ends before the sign between members
ends_before : (j : Joint) (s : Term) (ts : List Term) → s.sign ≡ separator j → Ends (member j) (s ∷ ts)
ends_before joint.Or s ts e = (sees_no sign.And sign.Or s ts e refl, sees_no sign.Intersection sign.Or s ts e refl)
ends_before joint.And s ts e = sees_no sign.Intersection sign.And s ts e refl
ends_before joint.Inter s ts e = tt

ends_at : (j : Joint) (d : ℕ) (mid : List Term) (es : List Expr) (rest : List Term) → More j d mid es rest → Ends (Joined j) rest → Ends (member j) mid
ends_at _ _ _ _ _ (no_more j d rest) e = ends_member j rest e
ends_at _ _ _ _ _ (one_more j d s ts mid rest f es is first after) e = ends_before j s ts is

member_reads : (j : Joint) (d : ℕ) (ts : List Term) → reads (member j) d ts ≡ member_at j d ts
unfolding member_at
member_reads joint.Or d ts = refl
member_reads joint.And d ts = refl
member_reads joint.Inter d ts = refl

joins : (j : Joint) (d : ℕ) (ts rest : List Term) (first : Expr) (es : List Expr) → listed (separator j) (member_at j d) ts ≡ Some (first ∷ es, rest) → joined_at j d ts ≡ Some (join j first es, rest)
unfolding join_of
joins j d ts rest first es got = joined_is j d ts ∙ chain_some (whole j) (listed (separator j) (member_at j d) ts) (first ∷ es) rest got

negates : (d : ℕ) (n : Term) (ts rest : List Term) (e : Expr) → n.sign ≡ sign.Not → unary_at d ts ≡ Some (e, rest) → unary_at (suc d) (n ∷ ts) ≡ Some (tree.Not e, rest)
unfolding unary_at negated_by
negates d n ts rest e is got =
    if_yes (sees sign.Not (n ∷ ts)) _ _ (sees_yes sign.Not n ts is) ∙ (chain_some _ (expect sign.Not (n ∷ ts)) tt ts (expect_yes sign.Not n ts is) ∙ chain_some _ (unary_at d ts) e rest got)

groups : (d : ℕ) (o c : Term) (ts rest : List Term) (e : Expr) → o.sign ≡ sign.Open → joined_at joint.Or d ts ≡ Some (e, c ∷ rest) → c.sign ≡ sign.Close → unary_at (suc d) (o ∷ ts) ≡ Some (e, rest)
unfolding unary_at grouped_by joined_at
groups d o c ts rest e is_o got is_c =
    if_no (sees sign.Not (o ∷ ts)) _ _ (sees_no sign.Not sign.Open o ts is_o refl) ∙ (if_yes (sees sign.Open (o ∷ ts)) _ _ (sees_yes sign.Open o ts is_o)
    ∙ (chain_some _ (expect sign.Open (o ∷ ts)) tt ts (expect_yes sign.Open o ts is_o)
    ∙ (chain_some _ (joined_with joint.Or (unary_at d) ts) e (c ∷ rest) got ∙ chain_some _ (expect sign.Close (c ∷ rest)) tt rest (expect_yes sign.Close c rest is_c))))

mutual
  spells_shorter : (r : Rule) (d : ℕ) (ts : List Term) (e : Expr) (rest : List Term) → Spells r d ts e rest → length rest < length ts
  spells_shorter _ _ _ _ _ (predicate d ts mid rest o t is_o is_t lawful) = omega (arith, operand_shorter ts o mid is_o, test_shorter mid t rest is_t)
  spells_shorter _ _ _ _ _ (negated d n ts rest e is inner) = omega (arith, spells_shorter Unary d ts e rest inner)
  spells_shorter _ _ _ _ _ (grouped d o c ts rest e is_o inner is_c) = let less = spells_shorter (Joined joint.Or) d ts e (c ∷ rest) inner in omega (arith, less)
  spells_shorter _ _ _ _ _ (joined j d ts mid rest first es is after) = omega (arith, spells_shorter (member j) d ts first mid is, more_shorter j d mid es rest after)

  more_shorter : (j : Joint) (d : ℕ) (ts : List Term) (es : List Expr) (rest : List Term) → More j d ts es rest → length rest ≤ length ts
  more_shorter _ _ _ _ _ (no_more j d rest) = omega arith
  more_shorter _ _ _ _ _ (one_more j d s ts mid rest f es is first after) = omega (arith, spells_shorter (member j) d ts f mid first, more_shorter j d mid es rest after)

mutual
  pub spells_complete : (r : Rule) (d : ℕ) (ts : List Term) (e : Expr) (rest : List Term) → Spells r d ts e rest → Ends r rest → reads r d ts ≡ Some (e, rest)
  spells_complete _ _ _ _ _ (predicate d ts mid rest o t is_o is_t lawful) ends =
      unary_plain d ts (operand_sees sign.Not refl refl refl ts o mid is_o) (operand_sees sign.Open refl refl refl ts o mid is_o) ∙ predicate_complete ts mid rest o t is_o is_t lawful
  spells_complete _ _ _ _ _ (negated d n ts rest e is inner) ends = negates d n ts rest e is (spells_complete Unary d ts e rest inner tt)
  spells_complete _ _ _ _ _ (grouped d o c ts rest e is_o inner is_c) ends =
      groups d o c ts rest e is_o
      (spells_complete (Joined joint.Or) d ts e (c ∷ rest) inner
      (sees_no sign.Or sign.Close c rest is_c refl, sees_no sign.And sign.Close c rest is_c refl, sees_no sign.Intersection sign.Close c rest is_c refl)) is_c
  spells_complete _ _ _ _ _ (joined j d ts mid rest first es is after) ends =
      joins j d ts rest first es
      (whole_list (separator j) (member_at j d) ts mid rest first es (sym (member_reads j d ts) ∙ spells_complete (member j) d ts first mid is (ends_at j d mid es rest after ends))
      (more_complete j d mid es rest after ends (length mid) (omega arith)))

  more_complete : (j : Joint) (d : ℕ) (ts : List Term) (es : List Expr) (rest : List Term) → More j d ts es rest → Ends (Joined j) rest → (n : ℕ) → length ts ≤ n →
      more n (separator j) (member_at j d) ts ≡ Some (es, rest)
  more_complete _ _ _ _ _ (no_more j d rest) ends n enough = last_turn (separator j) (member_at j d) n rest (ends_own j rest ends)
  more_complete _ _ _ _ _ (one_more j d s ts mid rest f es is first after) ends zero enough = absurd (let none : suc (length ts) ≤ 0 = enough in omega arith)
  more_complete _ _ _ _ _ (one_more j d s ts mid rest f es is first after) ends (suc n) enough =
      turn (separator j) (member_at j d) n s ts mid rest f es is (sym (member_reads j d ts) ∙ spells_complete (member j) d ts f mid first (ends_at j d mid es rest after ends))
      (more_complete j d mid es rest after ends n (omega (arith, spells_shorter (member j) d ts f mid first)))
