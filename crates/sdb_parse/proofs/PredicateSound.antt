-- Predicates that readers give are those of the grammar.
use Rattle.std.proofs.Common.{◌≡◌, ℕ, ◌&&◌, List, [], ◌∷◌, Option, Some, None, ap, subst}
use Rattle.sdb_parse.specs.declared.expr.Expr.{Expr}
use Rattle.sdb_parse.specs.declared.expr.Expr.TheVariants as tree
use Rattle.sdb_parse.specs.declared.expr.Operand.{Operand}
use Rattle.sdb_parse.specs.declared.expr.Operand.TheVariants as operand
use Rattle.sdb_parse.specs.declared.sign.Sign.TheVariants as sign
use Rattle.sdb_parse.specs.declared.term.Term.{Term}
use Rattle.sdb_parse.specs.declared.test.Test.{Test}
use Rattle.sdb_parse.specs.declared.test.Test.TheVariants as test
use Rattle.sdb_parse.specs.Reading.{attr_at, expect, item_name_at, listed, sees, sees_call, text_at}
use Rattle.sdb_parse.specs.Conditions.{between_at, compared, compared_with, comparison_at, every_at, is_every, is_null_test, like_at, null_test_at, one_of_at, operand_at, predicate_at, test_at}
use Rattle.sdb_parse.specs.Grammar.{IsAttr, IsQuoted, Listing, IsTest, compares, likes, not_likes, within, one_of, null, not_null, IsOperand, some_value, every_value, its_name, Spells, Unary, predicate}
use Rattle.sdb_parse.proofs.SoundLemmas.{Got, not_none, same_read, done, on_chain, on_if, on_expect, on_text, attr_sound, quoted_sound, item_name_sound, listing_sound}

on_compared : {C : Type 0} (o : Option Test) (mid rest : List Term) (t : Test) → compared_with o mid ≡ Some (t, rest) → (o ≡ Some t → mid ≡ rest → C) → C
on_compared None mid rest t e k = absurd (not_none {A = Test × List Term} (t, rest) e)
on_compared (Some u) mid rest t e k = k (ap (λ (p : Test × List Term). Some p.0) (same_read u t mid rest e)) (ap (λ (p : Test × List Term). p.1) (same_read u t mid rest e))

comparison_sound : (ts : List Term) (t : Test) (rest : List Term) → comparison_at ts ≡ Some (t, rest) → IsTest ts t rest
unfolding comparison_at
comparison_sound [] t rest e = absurd (not_none {A = Test × List Term} (t, rest) e)
comparison_sound (s ∷ ts) t rest e = on_chain (text_at sign.Quoted ts) _ t rest e (λ v mid got next. on_compared (compared s.sign v) mid rest t next (λ is left.
    subst (λ l. IsTest (s ∷ ts) t l) left
    (on_text (λ l w. compared s.sign w ≡ Some t → IsTest (s ∷ l) t mid) sign.Quoted ts mid v got (λ q is_q so. compares s q mid t so is_q) is)))

on_like : (C : List Term → List ℕ → Type 0) (ts rest : List Term) (v : List ℕ) → like_at ts ≡ Some (v, rest) → ((w q : Term) → w.sign ≡ sign.Like → q.sign ≡ sign.Quoted → C (w ∷ q ∷ rest) q.text) → C ts v
unfolding like_at
on_like C ts rest v e k = on_chain (expect sign.Like ts) _ v rest e (λ u a got next.
    on_expect (λ l. C l v) sign.Like ts a u got (λ w is_w. on_text (λ l x. C (w ∷ l) x) sign.Quoted a rest v next (λ q is_q. k w q is_w is_q)))

between_sound : (ts : List Term) (t : Test) (rest : List Term) → between_at ts ≡ Some (t, rest) → IsTest ts t rest
unfolding between_at
between_sound ts t rest e =
    on_chain (expect sign.Between ts) _ t rest e (λ u a got1 next1. on_chain (text_at sign.Quoted a) _ t rest next1 (λ low b got2 next2.
    on_chain (expect sign.And b) _ t rest next2 (λ u' c got3 next3. on_chain (text_at sign.Quoted c) _ t rest next3 (λ high d got4 got5.
    done (IsTest ts) (test.Between low high) t d rest got5
    (on_expect (λ l. IsTest l (test.Between low high) d) sign.Between ts a u got1 (λ w is_w.
    on_text (λ l v. IsTest (w ∷ l) (test.Between v high) d) sign.Quoted a b low got2 (λ p is_p.
    on_expect (λ l. IsTest (w ∷ p ∷ l) (test.Between p.text high) d) sign.And b c u' got3 (λ n is_n.
    on_text (λ l v. IsTest (w ∷ p ∷ n ∷ l) (test.Between p.text v) d) sign.Quoted c d high got4 (λ q is_q. within w p n q d is_w is_p is_n is_q)))))))))

one_of_sound : (ts : List Term) (t : Test) (rest : List Term) → one_of_at ts ≡ Some (t, rest) → IsTest ts t rest
unfolding one_of_at
one_of_sound ts t rest e =
    on_chain (expect sign.In ts) _ t rest e (λ u a got1 next1. on_chain (expect sign.Open a) _ t rest next1 (λ u' b got2 next2.
    on_chain (listed sign.Comma (text_at sign.Quoted) b) _ t rest next2 (λ texts c got3 next3. on_chain (expect sign.Close c) _ t rest next3 (λ u'' d got4 got5.
    done (IsTest ts) (test.OneOf texts) t d rest got5
    (on_expect (λ l. IsTest l (test.OneOf texts) d) sign.In ts a u got1 (λ w is_w.
    on_expect (λ l. IsTest (w ∷ l) (test.OneOf texts) d) sign.Open a b u' got2 (λ o is_o.
    on_expect (λ l. Listing sign.Comma IsQuoted b texts l → IsTest (w ∷ o ∷ b) (test.OneOf texts) d) sign.Close c d u'' got4
    (λ p is_p listing. one_of w o p b d texts is_w is_o listing is_p) (listing_sound sign.Comma (text_at sign.Quoted) IsQuoted quoted_sound b texts c got3))))))))

null_sound : (ts : List Term) (t : Test) (rest : List Term) → null_test_at ts ≡ Some (t, rest) → IsTest ts t rest
unfolding null_test_at
null_sound ts t rest e = on_chain (expect sign.Is ts) _ t rest e (λ u a got1 next1.
    on_if {X = Got Test} (sees sign.Not a) _ _ (Some (t, rest)) next1
    (λ seen next2. on_chain (expect sign.Not a) _ t rest next2 (λ u' b got2 next3. on_chain (expect sign.Null b) _ t rest next3 (λ u'' c got3 got4.
    done (IsTest ts) test.IsNotNull t c rest got4
    (on_expect (λ l. IsTest l test.IsNotNull c) sign.Is ts a u got1 (λ i is_i.
    on_expect (λ l. IsTest (i ∷ l) test.IsNotNull c) sign.Not a b u' got2 (λ m is_m.
    on_expect (λ l. IsTest (i ∷ m ∷ l) test.IsNotNull c) sign.Null b c u'' got3 (λ n is_n. not_null i m n c is_i is_m is_n)))))))
    (λ seen next2. on_chain (expect sign.Null a) _ t rest next2 (λ u' b got2 got3.
    done (IsTest ts) test.IsNull t b rest got3
    (on_expect (λ l. IsTest l test.IsNull b) sign.Is ts a u got1 (λ i is_i.
    on_expect (λ l. IsTest (i ∷ l) test.IsNull b) sign.Null a b u' got2 (λ n is_n. null i n b is_i is_n))))))

pub test_sound : (ts : List Term) (t : Test) (rest : List Term) → test_at ts ≡ Some (t, rest) → IsTest ts t rest
unfolding test_at
test_sound ts t rest e = on_if {X = Got Test} (sees sign.Like ts) _ _ (Some (t, rest)) e
    (λ seen next. on_chain (like_at ts) _ t rest next (λ v mid got1 got2. done (IsTest ts) (test.Like v) t mid rest got2
    (on_like (λ l w. IsTest l (test.Like w) mid) ts mid v got1 (λ w q is_w is_q. likes w q mid is_w is_q))))
    (λ seen next. on_if {X = Got Test} (sees sign.Not ts) _ _ (Some (t, rest)) next
    (λ seen' next'. on_chain (expect sign.Not ts) _ t rest next' (λ u a got1 next1. on_chain (like_at a) _ t rest next1 (λ v mid got2 got3.
    done (IsTest ts) (test.NotLike v) t mid rest got3
    (on_expect (λ l. IsTest l (test.NotLike v) mid) sign.Not ts a u got1 (λ n is_n.
    on_like (λ l w. IsTest (n ∷ l) (test.NotLike w) mid) a mid v got2 (λ w q is_w is_q. not_likes n w q mid is_n is_w is_q))))))
    (λ seen' next'. on_if {X = Got Test} (sees sign.Between ts) _ _ (Some (t, rest)) next'
    (λ _ got. between_sound ts t rest got)
    (λ _ next''. on_if {X = Got Test} (sees sign.In ts) _ _ (Some (t, rest)) next''
    (λ _ got. one_of_sound ts t rest got)
    (λ _ last. on_if {X = Got Test} (sees sign.Is ts) _ _ (Some (t, rest)) last (λ _ got. null_sound ts t rest got) (λ _ got. comparison_sound ts t rest got)))))

every_sound : (ts : List Term) (o : Operand) (rest : List Term) → every_at ts ≡ Some (o, rest) → IsOperand ts o rest
unfolding every_at
every_sound ts o rest e =
    on_chain (expect sign.Every ts) _ o rest e (λ u a got1 next1. on_chain (expect sign.Open a) _ o rest next1 (λ u' b got2 next2.
    on_chain (attr_at b) _ o rest next2 (λ name c got3 next3. on_chain (expect sign.Close c) _ o rest next3 (λ u'' d got4 got5.
    done (IsOperand ts) (operand.Every name) o d rest got5
    (on_expect (λ l. IsOperand l (operand.Every name) d) sign.Every ts a u got1 (λ w is_w.
    on_expect (λ l. IsOperand (w ∷ l) (operand.Every name) d) sign.Open a b u' got2 (λ p is_p.
    on_expect (λ l. IsAttr b name l → IsOperand (w ∷ p ∷ b) (operand.Every name) d) sign.Close c d u'' got4
    (λ q is_q is_attr. every_value w p q b d name is_w is_p is_attr is_q) (attr_sound b name c got3))))))))

pub operand_sound : (ts : List Term) (o : Operand) (rest : List Term) → operand_at ts ≡ Some (o, rest) → IsOperand ts o rest
unfolding operand_at
operand_sound ts o rest e = on_if {X = Got Operand} (sees_call sign.ItemName ts) _ _ (Some (o, rest)) e
    (λ seen next. on_chain (item_name_at ts) _ o rest next (λ u mid got1 got2. done (IsOperand ts) operand.ItemName o mid rest got2 (its_name ts mid (item_name_sound ts u mid got1))))
    (λ seen next. on_if {X = Got Operand} (sees sign.Every ts) _ _ (Some (o, rest)) next
    (λ seen' got. every_sound ts o rest got)
    (λ seen' next'. on_chain (attr_at ts) _ o rest next' (λ name mid got1 got2. done (IsOperand ts) (operand.Attr name) o mid rest got2 (some_value ts name mid (attr_sound ts name mid got1)))))

pub predicate_sound : (d : ℕ) (ts : List Term) (e : Expr) (rest : List Term) → predicate_at ts ≡ Some (e, rest) → Spells Unary d ts e rest
unfolding predicate_at
predicate_sound d ts e rest is = on_chain (operand_at ts) _ e rest is (λ o mid got1 next1. on_chain (test_at mid) _ e rest next1 (λ t left got2 next2.
    on_if {X = Got Expr} (is_every o && is_null_test t) None (Some (tree.Pred o t, left)) (Some (e, rest)) next2
    (λ lawless none. absurd (not_none {A = Expr × List Term} (e, rest) none))
    (λ lawful got. done (Spells Unary d ts) (tree.Pred o t) e left rest got (predicate d ts mid left o t (operand_sound ts o mid got1) (test_sound mid t left got2) lawful))))
