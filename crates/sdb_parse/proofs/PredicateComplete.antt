-- Predicates that the grammar has are what readers give.
use Rattle.std.proofs.Common.{◌≡◌, ℕ, ◌<◌, true, false, ◌&&◌, List, ◌∷◌, length, Some, None, refl, ap, ◌∙◌, arith}
use Rattle.sdb_parse.specs.declared.expr.Expr.TheVariants as tree
use Rattle.sdb_parse.specs.declared.expr.Operand.{Operand}
use Rattle.sdb_parse.specs.declared.expr.Operand.TheVariants as operand
use Rattle.sdb_parse.specs.declared.sign.Sign.{Sign}
use Rattle.sdb_parse.specs.declared.sign.Sign.TheVariants as sign
use Rattle.sdb_parse.specs.declared.term.Term.{Term}
use Rattle.sdb_parse.specs.declared.test.Test.{Test}
use Rattle.sdb_parse.specs.declared.test.Test.TheVariants as test
use Rattle.sdb_parse.specs.Signs.{may_name, same}
use Rattle.sdb_parse.specs.Reading.{attr_at, chain, expect, item_name_at, listed, sees, sees_call, text_at}
use Rattle.sdb_parse.specs.Conditions.{between_at, compared, compared_with, comparison_at, every_at, is_every, is_null_test, like_at, null_test_at, one_of_at, operand_at, predicate_at, test_at}
use Rattle.sdb_parse.specs.Grammar.{IsQuoted, IsTest, compares, likes, not_likes, within, one_of, null, not_null, IsOperand, some_value, every_value, its_name}
use Rattle.sdb_parse.proofs.SoundLemmas.{not_none}
use Rattle.sdb_parse.proofs.ConditionLemmas.{chain_some}
use Rattle.sdb_parse.proofs.CompleteLemmas.{if_yes, if_no, expect_yes, text_yes, sees_yes, sees_no, attr_complete, attr_shorter, attr_sees, attr_calls, quoted_complete, quoted_shorter, item_name_complete, item_name_called, item_name_sees, item_name_shorter, call_no, listing_complete, listing_shorter}

-- a sign that compares is none of those of other tests
others : (s : Sign) (v : List ℕ) (asked : Test) → compared s v ≡ Some asked →
    (same s sign.Like ≡ false) × (same s sign.Not ≡ false) × (same s sign.Between ≡ false) × (same s sign.In ≡ false) × (same s sign.Is ≡ false)
unfolding compared
others sign.Equal v asked e = (refl, refl, refl, refl, refl)
others sign.Unequal v asked e = (refl, refl, refl, refl, refl)
others sign.Less v asked e = (refl, refl, refl, refl, refl)
others sign.LessEqual v asked e = (refl, refl, refl, refl, refl)
others sign.Greater v asked e = (refl, refl, refl, refl, refl)
others sign.GreaterEqual v asked e = (refl, refl, refl, refl, refl)
others _ v asked e = absurd (not_none asked e)

module _ (ts : List Term) where
  -- the branches of a test
  test_like : sees sign.Like ts ≡ true → test_at ts ≡ chain (like_at ts) (λ text rest. Some (test.Like text, rest))
  unfolding test_at
  test_like e = if_yes _ _ _ e

  test_not : sees sign.Like ts ≡ false → sees sign.Not ts ≡ true → test_at ts ≡ chain (expect sign.Not ts) (λ _ a. chain (like_at a) (λ text rest. Some (test.NotLike text, rest)))
  unfolding test_at
  test_not e f = if_no _ _ _ e ∙ if_yes _ _ _ f

  test_between : sees sign.Like ts ≡ false → sees sign.Not ts ≡ false → sees sign.Between ts ≡ true → test_at ts ≡ between_at ts
  unfolding test_at
  test_between e f g = if_no _ _ _ e ∙ (if_no _ _ _ f ∙ if_yes _ _ _ g)

  test_in : sees sign.Like ts ≡ false → sees sign.Not ts ≡ false → sees sign.Between ts ≡ false → sees sign.In ts ≡ true → test_at ts ≡ one_of_at ts
  unfolding test_at
  test_in e f g h = if_no _ _ _ e ∙ (if_no _ _ _ f ∙ (if_no _ _ _ g ∙ if_yes _ _ _ h))

  test_is : sees sign.Like ts ≡ false → sees sign.Not ts ≡ false → sees sign.Between ts ≡ false → sees sign.In ts ≡ false → sees sign.Is ts ≡ true → test_at ts ≡ null_test_at ts
  unfolding test_at
  test_is e f g h k = if_no _ _ _ e ∙ (if_no _ _ _ f ∙ (if_no _ _ _ g ∙ (if_no _ _ _ h ∙ if_yes _ _ _ k)))

  test_compares : sees sign.Like ts ≡ false → sees sign.Not ts ≡ false → sees sign.Between ts ≡ false → sees sign.In ts ≡ false → sees sign.Is ts ≡ false → test_at ts ≡ comparison_at ts
  unfolding test_at
  test_compares e f g h k = if_no _ _ _ e ∙ (if_no _ _ _ f ∙ (if_no _ _ _ g ∙ (if_no _ _ _ h ∙ if_no _ _ _ k)))

comparison_complete : (t q : Term) (rest : List Term) (asked : Test) → compared t.sign q.text ≡ Some asked → q.sign ≡ sign.Quoted → comparison_at (t ∷ q ∷ rest) ≡ Some (asked, rest)
unfolding comparison_at
comparison_complete t q rest asked so is_q = chain_some _ (text_at sign.Quoted (q ∷ rest)) q.text rest (text_yes sign.Quoted q rest is_q) ∙ ap (λ o. compared_with o rest) so

like_complete : (w q : Term) (rest : List Term) → w.sign ≡ sign.Like → q.sign ≡ sign.Quoted → like_at (w ∷ q ∷ rest) ≡ Some (q.text, rest)
unfolding like_at
like_complete w q rest is_w is_q = chain_some _ (expect sign.Like (w ∷ q ∷ rest)) tt (q ∷ rest) (expect_yes sign.Like w (q ∷ rest) is_w) ∙ text_yes sign.Quoted q rest is_q

between_complete : (w low a high : Term) (rest : List Term) → w.sign ≡ sign.Between → low.sign ≡ sign.Quoted → a.sign ≡ sign.And → high.sign ≡ sign.Quoted →
    between_at (w ∷ low ∷ a ∷ high ∷ rest) ≡ Some (test.Between low.text high.text, rest)
unfolding between_at
between_complete w low a high rest is_w is_low is_a is_high =
    chain_some _ (expect sign.Between (w ∷ low ∷ a ∷ high ∷ rest)) tt (low ∷ a ∷ high ∷ rest) (expect_yes sign.Between w (low ∷ a ∷ high ∷ rest) is_w)
    ∙ (chain_some _ (text_at sign.Quoted (low ∷ a ∷ high ∷ rest)) low.text (a ∷ high ∷ rest) (text_yes sign.Quoted low (a ∷ high ∷ rest) is_low)
    ∙ (chain_some _ (expect sign.And (a ∷ high ∷ rest)) tt (high ∷ rest) (expect_yes sign.And a (high ∷ rest) is_a)
    ∙ chain_some _ (text_at sign.Quoted (high ∷ rest)) high.text rest (text_yes sign.Quoted high rest is_high)))

one_of_complete : (w o c : Term) (ts rest : List Term) (texts : List (List ℕ)) → w.sign ≡ sign.In → o.sign ≡ sign.Open → listed sign.Comma (text_at sign.Quoted) ts ≡ Some (texts, c ∷ rest) → c.sign ≡ sign.Close →
    one_of_at (w ∷ o ∷ ts) ≡ Some (test.OneOf texts, rest)
unfolding one_of_at
one_of_complete w o c ts rest texts is_w is_o got is_c =
    chain_some _ (expect sign.In (w ∷ o ∷ ts)) tt (o ∷ ts) (expect_yes sign.In w (o ∷ ts) is_w)
    ∙ (chain_some _ (expect sign.Open (o ∷ ts)) tt ts (expect_yes sign.Open o ts is_o)
    ∙ (chain_some _ (listed sign.Comma (text_at sign.Quoted) ts) texts (c ∷ rest) got
    ∙ chain_some _ (expect sign.Close (c ∷ rest)) tt rest (expect_yes sign.Close c rest is_c)))

null_complete : (i n : Term) (rest : List Term) → i.sign ≡ sign.Is → n.sign ≡ sign.Null → null_test_at (i ∷ n ∷ rest) ≡ Some (test.IsNull, rest)
unfolding null_test_at
null_complete i n rest is_i is_n =
    chain_some _ (expect sign.Is (i ∷ n ∷ rest)) tt (n ∷ rest) (expect_yes sign.Is i (n ∷ rest) is_i)
    ∙ (if_no (sees sign.Not (n ∷ rest)) _ _ (sees_no sign.Not sign.Null n rest is_n refl) ∙ chain_some _ (expect sign.Null (n ∷ rest)) tt rest (expect_yes sign.Null n rest is_n))

not_null_complete : (i m n : Term) (rest : List Term) → i.sign ≡ sign.Is → m.sign ≡ sign.Not → n.sign ≡ sign.Null → null_test_at (i ∷ m ∷ n ∷ rest) ≡ Some (test.IsNotNull, rest)
unfolding null_test_at
not_null_complete i m n rest is_i is_m is_n =
    chain_some _ (expect sign.Is (i ∷ m ∷ n ∷ rest)) tt (m ∷ n ∷ rest) (expect_yes sign.Is i (m ∷ n ∷ rest) is_i)
    ∙ (if_yes (sees sign.Not (m ∷ n ∷ rest)) _ _ (sees_yes sign.Not m (n ∷ rest) is_m)
    ∙ (chain_some _ (expect sign.Not (m ∷ n ∷ rest)) tt (n ∷ rest) (expect_yes sign.Not m (n ∷ rest) is_m)
    ∙ chain_some _ (expect sign.Null (n ∷ rest)) tt rest (expect_yes sign.Null n rest is_n)))

pub test_complete : (ts : List Term) (t : Test) (rest : List Term) → IsTest ts t rest → test_at ts ≡ Some (t, rest)
test_complete _ _ _ (compares t q rest asked so is_q) =
    let o = others t.sign q.text asked so in
    test_compares (t ∷ q ∷ rest) (sees_no sign.Like t.sign t (q ∷ rest) refl o.0) (sees_no sign.Not t.sign t (q ∷ rest) refl o.1) (sees_no sign.Between t.sign t (q ∷ rest) refl o.2)
    (sees_no sign.In t.sign t (q ∷ rest) refl o.3) (sees_no sign.Is t.sign t (q ∷ rest) refl o.4) ∙ comparison_complete t q rest asked so is_q
test_complete _ _ _ (likes w q rest is_w is_q) =
    test_like (w ∷ q ∷ rest) (sees_yes sign.Like w (q ∷ rest) is_w) ∙ chain_some _ (like_at (w ∷ q ∷ rest)) q.text rest (like_complete w q rest is_w is_q)
test_complete _ _ _ (not_likes n w q rest is_n is_w is_q) =
    test_not (n ∷ w ∷ q ∷ rest) (sees_no sign.Like sign.Not n (w ∷ q ∷ rest) is_n refl) (sees_yes sign.Not n (w ∷ q ∷ rest) is_n)
    ∙ (chain_some _ (expect sign.Not (n ∷ w ∷ q ∷ rest)) tt (w ∷ q ∷ rest) (expect_yes sign.Not n (w ∷ q ∷ rest) is_n)
    ∙ chain_some _ (like_at (w ∷ q ∷ rest)) q.text rest (like_complete w q rest is_w is_q))
test_complete _ _ _ (within w low a high rest is_w is_low is_a is_high) =
    let ts = low ∷ a ∷ high ∷ rest in
    test_between (w ∷ low ∷ a ∷ high ∷ rest) (sees_no sign.Like sign.Between w ts is_w refl) (sees_no sign.Not sign.Between w ts is_w refl) (sees_yes sign.Between w ts is_w)
    ∙ between_complete w low a high rest is_w is_low is_a is_high
test_complete _ _ _ (one_of w o c ts rest texts is_w is_o is_texts is_c) =
    test_in (w ∷ o ∷ ts) (sees_no sign.Like sign.In w (o ∷ ts) is_w refl) (sees_no sign.Not sign.In w (o ∷ ts) is_w refl) (sees_no sign.Between sign.In w (o ∷ ts) is_w refl) (sees_yes sign.In w (o ∷ ts) is_w)
    ∙ one_of_complete w o c ts rest texts is_w is_o
    (listing_complete sign.Comma (text_at sign.Quoted) IsQuoted quoted_complete quoted_shorter ts texts (c ∷ rest) is_texts (sees_no sign.Comma sign.Close c rest is_c refl)) is_c
test_complete _ _ _ (null i n rest is_i is_n) =
    test_is (i ∷ n ∷ rest) (sees_no sign.Like sign.Is i (n ∷ rest) is_i refl) (sees_no sign.Not sign.Is i (n ∷ rest) is_i refl) (sees_no sign.Between sign.Is i (n ∷ rest) is_i refl)
    (sees_no sign.In sign.Is i (n ∷ rest) is_i refl) (sees_yes sign.Is i (n ∷ rest) is_i) ∙ null_complete i n rest is_i is_n
test_complete _ _ _ (not_null i m n rest is_i is_m is_n) =
    test_is (i ∷ m ∷ n ∷ rest) (sees_no sign.Like sign.Is i (m ∷ n ∷ rest) is_i refl) (sees_no sign.Not sign.Is i (m ∷ n ∷ rest) is_i refl) (sees_no sign.Between sign.Is i (m ∷ n ∷ rest) is_i refl)
    (sees_no sign.In sign.Is i (m ∷ n ∷ rest) is_i refl) (sees_yes sign.Is i (m ∷ n ∷ rest) is_i) ∙ not_null_complete i m n rest is_i is_m is_n

pub test_shorter : (ts : List Term) (t : Test) (rest : List Term) → IsTest ts t rest → length rest < length ts
test_shorter _ _ _ (compares t q rest asked so is_q) = omega arith
test_shorter _ _ _ (likes w q rest is_w is_q) = omega arith
test_shorter _ _ _ (not_likes n w q rest is_n is_w is_q) = omega arith
test_shorter _ _ _ (within w low a high rest is_w is_low is_a is_high) = omega arith
test_shorter _ _ _ (one_of w o c ts rest texts is_w is_o is_texts is_c) =
    let less = listing_shorter sign.Comma (text_at sign.Quoted) IsQuoted quoted_complete quoted_shorter ts texts (c ∷ rest) is_texts in omega (arith, less)
test_shorter _ _ _ (null i n rest is_i is_n) = omega arith
test_shorter _ _ _ (not_null i m n rest is_i is_m is_n) = omega arith

every_complete : (e o c : Term) (ts rest : List Term) (name : List ℕ) → e.sign ≡ sign.Every → o.sign ≡ sign.Open → attr_at ts ≡ Some (name, c ∷ rest) → c.sign ≡ sign.Close →
    every_at (e ∷ o ∷ ts) ≡ Some (operand.Every name, rest)
unfolding every_at
every_complete e o c ts rest name is_e is_o got is_c =
    chain_some _ (expect sign.Every (e ∷ o ∷ ts)) tt (o ∷ ts) (expect_yes sign.Every e (o ∷ ts) is_e)
    ∙ (chain_some _ (expect sign.Open (o ∷ ts)) tt ts (expect_yes sign.Open o ts is_o)
    ∙ (chain_some _ (attr_at ts) name (c ∷ rest) got ∙ chain_some _ (expect sign.Close (c ∷ rest)) tt rest (expect_yes sign.Close c rest is_c)))

pub operand_complete : (ts : List Term) (o : Operand) (rest : List Term) → IsOperand ts o rest → operand_at ts ≡ Some (o, rest)
unfolding operand_at
operand_complete _ _ _ (some_value ts name rest is) =
    if_no (sees_call sign.ItemName ts) _ _ (attr_calls sign.ItemName refl ts name rest is)
    ∙ (if_no (sees sign.Every ts) _ _ (attr_sees sign.Every refl ts name rest is) ∙ chain_some _ (attr_at ts) name rest (attr_complete ts name rest is))
operand_complete _ _ _ (every_value e o c ts rest name is_e is_o is is_c) =
    if_no (sees_call sign.ItemName (e ∷ o ∷ ts)) _ _ (call_no sign.ItemName sign.Every e (o ∷ ts) is_e refl)
    ∙ (if_yes (sees sign.Every (e ∷ o ∷ ts)) _ _ (sees_yes sign.Every e (o ∷ ts) is_e) ∙ every_complete e o c ts rest name is_e is_o (attr_complete ts name (c ∷ rest) is) is_c)
operand_complete _ _ _ (its_name ts rest is) =
    if_yes (sees_call sign.ItemName ts) _ _ (item_name_called ts rest is) ∙ chain_some _ (item_name_at ts) tt rest (item_name_complete ts rest is)

pub operand_shorter : (ts : List Term) (o : Operand) (rest : List Term) → IsOperand ts o rest → length rest < length ts
operand_shorter _ _ _ (some_value ts name rest is) = attr_shorter ts name rest is
operand_shorter _ _ _ (every_value e o c ts rest name is_e is_o is is_c) = omega (arith, attr_shorter ts name (c ∷ rest) is)
operand_shorter _ _ _ (its_name ts rest is) = item_name_shorter ts rest is

-- an operand begins with no `not` and no `(`
pub operand_sees : (s : Sign) → may_name s ≡ false → same sign.Every s ≡ false → same sign.ItemName s ≡ false → (ts : List Term) (o : Operand) (rest : List Term) → IsOperand ts o rest → sees s ts ≡ false
operand_sees s none every item _ _ _ (some_value ts name rest is) = attr_sees s none ts name rest is
operand_sees s none every item _ _ _ (every_value e o c ts rest name is_e is_o is is_c) = sees_no s sign.Every e (o ∷ ts) is_e every
operand_sees s none every item _ _ _ (its_name ts rest is) = item_name_sees s item ts rest is

pub predicate_complete : (ts mid rest : List Term) (o : Operand) (t : Test) → IsOperand ts o mid → IsTest mid t rest → (is_every o && is_null_test t) ≡ false → predicate_at ts ≡ Some (tree.Pred o t, rest)
unfolding predicate_at
predicate_complete ts mid rest o t is_o is_t lawful =
    chain_some _ (operand_at ts) o mid (operand_complete ts o mid is_o) ∙ (chain_some _ (test_at mid) t rest (test_complete mid t rest is_t)
    ∙ if_no (is_every o && is_null_test t) None (Some (tree.Pred o t, rest)) lawful)
