-- Conditions that readers give are those of the grammar.
use Rattle.std.proofs.Common.{◌≡◌, ℕ, zero, suc, List, ◌∷◌, Some}
use Rattle.sdb_parse.specs.declared.expr.Expr.{Expr}
use Rattle.sdb_parse.specs.declared.expr.Expr.TheVariants as tree
use Rattle.sdb_parse.specs.declared.joint.Joint.{Joint}
use Rattle.sdb_parse.specs.declared.joint.Joint.TheVariants as joint
use Rattle.sdb_parse.specs.declared.sign.Sign.TheVariants as sign
use Rattle.sdb_parse.specs.declared.term.Term.{Term}
use Rattle.sdb_parse.specs.Reading.{Reader, expect, listed, sees}
use Rattle.sdb_parse.specs.Conditions.{grouped_by, join, join_of, joined_at, joined_with, negated_by, separator, unary_at, whole}
use Rattle.sdb_parse.specs.Grammar.{Further, no_further, one_further, Listing, listing, Unary, Joined, member, Spells, negated, grouped, joined, More, no_more, one_more}
use Rattle.sdb_parse.proofs.SoundLemmas.{Got, not_none, done, on_chain, on_if, on_expect, listing_sound}
use Rattle.sdb_parse.proofs.PredicateSound.{predicate_sound}

as_more : (j : Joint) (d : ℕ) (ts : List Term) (es : List Expr) (rest : List Term) → Further (separator j) (Spells (member j) d) ts es rest → More j d ts es rest
as_more j d _ _ _ (no_further rest) = no_more j d rest
as_more j d _ _ _ (one_further t ts e mid es rest is first others) = one_more j d t ts mid rest e es is first (as_more j d mid es rest others)

as_joined : (j : Joint) (d : ℕ) (ts : List Term) (es : List Expr) (rest : List Term) (e : Expr) (left : List Term) → whole j es rest ≡ Some (e, left) → Listing (separator j) (Spells (member j) d) ts es rest → Spells (Joined j) d ts e left
as_joined j d _ _ _ e left so (listing ts first mid es rest is others) =
    done (Spells (Joined j) d ts) (join j first es) e rest left so (joined j d ts mid rest first es is (as_more j d mid es rest others))

join_sound : (j : Joint) (d : ℕ) (item : Reader Expr) → ((ts : List Term) (e : Expr) (rest : List Term) → item ts ≡ Some (e, rest) → Spells (member j) d ts e rest) →
    (ts : List Term) (e : Expr) (rest : List Term) → join_of j item ts ≡ Some (e, rest) → Spells (Joined j) d ts e rest
unfolding join_of
join_sound j d item sound ts e rest is = on_chain (listed (separator j) item ts) (whole j) e rest is (λ es mid got so.
    as_joined j d ts es mid e rest so (listing_sound (separator j) item (Spells (member j) d) sound ts es mid got))

module _ (d : ℕ) (item : Reader Expr) (sound : (ts : List Term) (e : Expr) (rest : List Term) → item ts ≡ Some (e, rest) → Spells Unary d ts e rest) where
  with_sound : (ts : List Term) (e : Expr) (rest : List Term) → joined_with joint.Or item ts ≡ Some (e, rest) → Spells (Joined joint.Or) d ts e rest
  with_sound = join_sound joint.Or d (join_of joint.And (join_of joint.Inter item)) (join_sound joint.And d (join_of joint.Inter item) (join_sound joint.Inter d item sound))

  negated_sound : (ts : List Term) (e : Expr) (rest : List Term) → negated_by item ts ≡ Some (e, rest) → Spells Unary (suc d) ts e rest
  unfolding negated_by
  negated_sound ts e rest is = on_chain (expect sign.Not ts) _ e rest is (λ u a got1 next. on_chain (item a) _ e rest next (λ f b got2 got3.
      done (Spells Unary (suc d) ts) (tree.Not f) e b rest got3
      (on_expect (λ l. Spells Unary (suc d) l (tree.Not f) b) sign.Not ts a u got1 (λ n is_n. negated d n a b f is_n (sound a f b got2)))))

  grouped_sound : (ts : List Term) (e : Expr) (rest : List Term) → grouped_by item ts ≡ Some (e, rest) → Spells Unary (suc d) ts e rest
  unfolding grouped_by
  grouped_sound ts e rest is = on_chain (expect sign.Open ts) _ e rest is (λ u a got1 next. on_chain (joined_with joint.Or item a) _ e rest next (λ f b got2 next2.
      on_chain (expect sign.Close b) _ e rest next2 (λ u' c got3 got4.
      done (Spells Unary (suc d) ts) f e c rest got4
      (on_expect (λ l. Spells Unary (suc d) l f c) sign.Open ts a u got1 (λ o is_o.
      on_expect (λ l. Spells (Joined joint.Or) d a f l → Spells Unary (suc d) (o ∷ a) f c) sign.Close b c u' got3
      (λ p is_p inner. grouped d o p a c f is_o inner is_p) (with_sound a f b got2))))))

pub unary_sound : (d : ℕ) (ts : List Term) (e : Expr) (rest : List Term) → unary_at d ts ≡ Some (e, rest) → Spells Unary d ts e rest
unfolding unary_at
unary_sound zero ts e rest is = on_if {X = Got Expr} (sees sign.Not ts) _ _ (Some (e, rest)) is
    (λ _ none. absurd (not_none {A = Expr × List Term} (e, rest) none))
    (λ _ next. on_if {X = Got Expr} (sees sign.Open ts) _ _ (Some (e, rest)) next
    (λ _ none. absurd (not_none {A = Expr × List Term} (e, rest) none)) (λ _ got. predicate_sound zero ts e rest got))
unary_sound (suc d) ts e rest is = on_if {X = Got Expr} (sees sign.Not ts) _ _ (Some (e, rest)) is
    (λ _ got. negated_sound d (unary_at d) (unary_sound d) ts e rest got)
    (λ _ next. on_if {X = Got Expr} (sees sign.Open ts) _ _ (Some (e, rest)) next
    (λ _ got. grouped_sound d (unary_at d) (unary_sound d) ts e rest got) (λ _ got. predicate_sound (suc d) ts e rest got))

pub joined_sound : (d : ℕ) (ts : List Term) (e : Expr) (rest : List Term) → joined_at joint.Or d ts ≡ Some (e, rest) → Spells (Joined joint.Or) d ts e rest
unfolding joined_at
joined_sound d ts e rest is = with_sound d (unary_at d) (unary_sound d) ts e rest is
