-- Conditions by what may still stand round a predicate, and by their members.
use Rattle.std.proofs.Common.{◌≡◌, ℕ, zero, suc, ◌<◌, ◌≤◌, Bool, true, false, List, [], ◌∷◌, length, Option, Some, None, if◌then◌else◌, refl, ap, ◌∙◌, arith}
use Rattle.sdb_parse.specs.declared.expr.Expr.{Expr}
use Rattle.sdb_parse.specs.declared.expr.Expr.TheVariants as tree
use Rattle.sdb_parse.specs.declared.joint.Joint.{Joint}
use Rattle.sdb_parse.specs.declared.joint.Joint.TheVariants as joint
use Rattle.sdb_parse.specs.declared.sign.Sign.TheVariants as sign
use Rattle.sdb_parse.specs.declared.term.Term.{Term}
use Rattle.sdb_parse.specs.Reading.{Reader, chain, expect, listed, sees}
use Rattle.sdb_parse.specs.Conditions.{grouped_at, grouped_by, join_of, joined_at, joined_by, member_at, negated_at, negated_by, predicate_at, separator, unary_at, whole}
use Rattle.sdb_parse.proofs.ListedLemmas.{Going, began, ended}

pub chain_none : {A B : Type 0} (next : A → Reader B) (got : Option (A × List Term)) → got ≡ None → chain got next ≡ None
chain_none next got e = ap (λ g. chain g next) e

pub chain_some : {A B : Type 0} (next : A → Reader B) (got : Option (A × List Term)) (a : A) (mid : List Term) → got ≡ Some (a, mid) → chain got next ≡ next a mid
chain_some next got a mid e = ap (λ g. chain g next) e

-- ---- the smallest parts

module _ (d : ℕ) (ts : List Term) where
  abbrev by_signs : Bool → Bool → Option (Expr × List Term)
  by_signs negates opens = if negates then negated_at d ts else (if opens then grouped_at d ts else predicate_at ts)

  unary_is : (n : ℕ) → n ≡ d → unary_at n ts ≡ (if sees sign.Not ts then negated_at n ts else (if sees sign.Open ts then grouped_at n ts else predicate_at ts))
  unfolding unary_at negated_at grouped_at
  unary_is zero e = refl
  unary_is (suc n) e = refl

  pub unary_not : sees sign.Not ts ≡ true → unary_at d ts ≡ negated_at d ts
  unary_not e = unary_is d refl ∙ ap (λ b. by_signs b (sees sign.Open ts)) e

  pub unary_open : sees sign.Not ts ≡ false → sees sign.Open ts ≡ true → unary_at d ts ≡ grouped_at d ts
  unary_open e f = unary_is d refl ∙ (ap (λ b. by_signs b (sees sign.Open ts)) e ∙ ap (λ b. by_signs false b) f)

  pub unary_plain : sees sign.Not ts ≡ false → sees sign.Open ts ≡ false → unary_at d ts ≡ predicate_at ts
  unary_plain e f = unary_is d refl ∙ (ap (λ b. by_signs b (sees sign.Open ts)) e ∙ ap (λ b. by_signs false b) f)

-- ---- what is negated and what stands in parentheses

pub negated_none : (d : ℕ) (ts : List Term) → d ≡ 0 → negated_at d ts ≡ None
unfolding negated_at
negated_none d ts e = ap (λ n. negated_at n ts) e

pub grouped_none : (d : ℕ) (ts : List Term) → d ≡ 0 → grouped_at d ts ≡ None
unfolding grouped_at
grouped_none d ts e = ap (λ n. grouped_at n ts) e

module _ (d n : ℕ) (more : d ≡ suc n) (ts : List Term) where
  negated_is : negated_at d ts ≡ chain (expect sign.Not ts) (λ _ a. chain (unary_at n a) (λ e rest. Some (tree.Not e, rest)))
  unfolding negated_at negated_by
  negated_is = ap (λ m. negated_at m ts) more

  pub negated_bare : expect sign.Not ts ≡ None → negated_at d ts ≡ None
  negated_bare h = negated_is ∙ chain_none _ (expect sign.Not ts) h

  pub negated_badly : (a : List Term) → expect sign.Not ts ≡ Some (tt, a) → unary_at n a ≡ None → negated_at d ts ≡ None
  negated_badly a h k = negated_is ∙ (chain_some _ (expect sign.Not ts) tt a h ∙ chain_none _ (unary_at n a) k)

  pub negated_done : (a rest : List Term) (e : Expr) → expect sign.Not ts ≡ Some (tt, a) → unary_at n a ≡ Some (e, rest) → negated_at d ts ≡ Some (tree.Not e, rest)
  negated_done a rest e h k = negated_is ∙ (chain_some _ (expect sign.Not ts) tt a h ∙ chain_some _ (unary_at n a) e rest k)

  grouped_is : grouped_at d ts ≡ chain (expect sign.Open ts) (λ _ a. chain (joined_at joint.Or n a) (λ e b. chain (expect sign.Close b) (λ _ rest. Some (e, rest))))
  unfolding grouped_at grouped_by joined_at
  grouped_is = ap (λ m. grouped_at m ts) more

  pub grouped_bare : expect sign.Open ts ≡ None → grouped_at d ts ≡ None
  grouped_bare h = grouped_is ∙ chain_none _ (expect sign.Open ts) h

  pub grouped_badly : (a : List Term) → expect sign.Open ts ≡ Some (tt, a) → joined_at joint.Or n a ≡ None → grouped_at d ts ≡ None
  grouped_badly a h k = grouped_is ∙ (chain_some _ (expect sign.Open ts) tt a h ∙ chain_none _ (joined_at joint.Or n a) k)

  pub grouped_unclosed : (a b : List Term) (e : Expr) → expect sign.Open ts ≡ Some (tt, a) → joined_at joint.Or n a ≡ Some (e, b) → expect sign.Close b ≡ None → grouped_at d ts ≡ None
  grouped_unclosed a b e h k m =
      grouped_is ∙ (chain_some _ (expect sign.Open ts) tt a h ∙ (chain_some _ (joined_at joint.Or n a) e b k ∙ chain_none _ (expect sign.Close b) m))

  pub grouped_done : (a b rest : List Term) (e : Expr) → expect sign.Open ts ≡ Some (tt, a) → joined_at joint.Or n a ≡ Some (e, b) → expect sign.Close b ≡ Some (tt, rest) → grouped_at d ts ≡ Some (e, rest)
  grouped_done a b rest e h k m =
      grouped_is ∙ (chain_some _ (expect sign.Open ts) tt a h ∙ (chain_some _ (joined_at joint.Or n a) e b k ∙ chain_some _ (expect sign.Close b) tt rest m))

-- ---- members

pub joined_is : (j : Joint) (d : ℕ) (ts : List Term) → joined_at j d ts ≡ join_of j (member_at j d) ts
unfolding joined_at member_at
joined_is joint.Or d ts = refl
joined_is joint.And d ts = refl
joined_is joint.Inter d ts = refl

pub several : (j : Joint) (es : List Expr) (rest : List Term) → 2 ≤ length es → whole j es rest ≡ Some (joined_by j es, rest)
several j [] rest h = absurd (omega arith)
several j (e ∷ []) rest h = absurd (omega arith)
several j (e ∷ f ∷ es) rest h = refl

-- members in a loop: there are at least two once no separator follows
pub record Members (j : Joint) (d : ℕ) (start ts : List Term) (found : List Expr) : Type 0 where
  pub going : Going (separator j) (member_at j d) start ts found
  pub some : 1 ≤ length found
  pub two : sees (separator j) ts ≡ false → 2 ≤ length found

module _ (j : Joint) (d : ℕ) (start : List Term) where
  joins : joined_at j d start ≡ chain (listed (separator j) (member_at j d) start) (whole j)
  unfolding join_of
  joins = joined_is j d start

  pub joined_badly : listed (separator j) (member_at j d) start ≡ None → joined_at j d start ≡ None
  joined_badly h = joins ∙ chain_none (whole j) _ h

  pub joined_one : (mid : List Term) (e : Expr) → member_at j d start ≡ Some (e, mid) → length mid < length start → sees (separator j) mid ≡ false → joined_at j d start ≡ Some (e, mid)
  joined_one mid e got less none =
      joins ∙ chain_some (whole j) _ (e ∷ []) mid (ended (separator j) (member_at j d) start mid (e ∷ []) (began (separator j) (member_at j d) start e mid got less) none)

  pub joined_several : (ts : List Term) (found : List Expr) → Members j d start ts found → sees (separator j) ts ≡ false → joined_at j d start ≡ Some (joined_by j found, ts)
  joined_several ts found m none =
      joins ∙ (chain_some (whole j) _ found ts (ended (separator j) (member_at j d) start ts found m.going none) ∙ several j found ts (m.two none))
