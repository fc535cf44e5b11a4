-- What the grammar says of names and lists is what readers give.
use Rattle.std.proofs.Common.{◌≡◌, ℕ, zero, suc, ◌<◌, ◌≤◌, Bool, true, false, not, ◌&&◌, List, [], ◌∷◌, length, drop, Option, Some, None, if◌then◌else◌, refl, sym, ap, ap₂, ◌∙◌, arith}
use Rattle.std.proofs.lemmas.Bool.{false≢true}
use Rattle.sdb_parse.specs.declared.sign.Sign.{Sign}
use Rattle.sdb_parse.specs.declared.sign.Sign.TheVariants as sign
use Rattle.sdb_parse.specs.declared.term.Term.{Term}
use Rattle.sdb_parse.specs.Signs.{may_name, same}
use Rattle.sdb_parse.specs.Reading.{Reader, attr_at, chain, expect, item_name_at, listed, more, name_at, sees, sees_call, text_at}
use Rattle.sdb_parse.specs.Grammar.{IsName, named, IsAttr, attr, IsQuoted, quoted, IsItemName, item_name, Further, no_further, one_further, Listing, listing}
use Rattle.sdb_parse.proofs.SignLemmas.{same_is, is_same}
use Rattle.sdb_parse.proofs.ConditionLemmas.{chain_some}

-- ---- steps of a reading

abbrev pub passed : {A : Type 0} → A → List Term → Bool → Option (A × List Term)
passed v rest b = if b then Some (v, rest) else None

pub if_yes : {X : Type 0} (b : Bool) (x y : X) → b ≡ true → (if b then x else y) ≡ x
if_yes b x y e = ap (λ c. if c then x else y) e

pub if_no : {X : Type 0} (b : Bool) (x y : X) → b ≡ false → (if b then x else y) ≡ y
if_no b x y e = ap (λ c. if c then x else y) e

pub expect_yes : (s : Sign) (t : Term) (rest : List Term) → t.sign ≡ s → expect s (t ∷ rest) ≡ Some (tt, rest)
unfolding expect sees
expect_yes s t rest e = ap (passed tt rest) (is_same t.sign s e)

pub text_yes : (s : Sign) (t : Term) (rest : List Term) → t.sign ≡ s → text_at s (t ∷ rest) ≡ Some (t.text, rest)
unfolding text_at
text_yes s t rest e = ap (passed t.text rest) (is_same t.sign s e)

pub sees_yes : (s : Sign) (t : Term) (rest : List Term) → t.sign ≡ s → sees s (t ∷ rest) ≡ true
unfolding sees
sees_yes s t rest e = is_same t.sign s e

pub sees_no : (s a : Sign) (t : Term) (rest : List Term) → t.sign ≡ a → same a s ≡ false → sees s (t ∷ rest) ≡ false
unfolding sees
sees_no s a t rest e differs = ap (λ x. same x s) e ∙ differs

pub call_no : (s a : Sign) (t : Term) (rest : List Term) → t.sign ≡ a → same a s ≡ false → sees_call s (t ∷ rest) ≡ false
unfolding sees_call
call_no s a t rest e differs = ap (λ x. same x s && sees sign.Open rest) e ∙ ap (λ b. b && sees sign.Open rest) differs

pub call_yes : (s : Sign) (t o : Term) (rest : List Term) → t.sign ≡ s → o.sign ≡ sign.Open → sees_call s (t ∷ o ∷ rest) ≡ true
unfolding sees_call
call_yes s t o rest e f = ap₂ (λ a b. a && b) (is_same t.sign s e) (sees_yes sign.Open o rest f)

-- ---- names

pub name_complete : (ts : List Term) (n : List ℕ) (rest : List Term) → IsName ts n rest → name_at ts ≡ Some (n, rest)
unfolding name_at
name_complete _ _ _ (named t rest may call) = ap (passed t.text rest) (ap₂ (λ a b. a && not b) may call)

pub name_shorter : (ts : List Term) (n : List ℕ) (rest : List Term) → IsName ts n rest → length rest < length ts
name_shorter _ _ _ (named t rest may call) = omega arith

bool_cases : {C : Type 0} (b : Bool) → (b ≡ true → C) → (b ≡ false → C) → C
bool_cases true t f = t refl
bool_cases false t f = f refl

-- a name begins with no other sign
pub name_sees : (s : Sign) → may_name s ≡ false → (ts : List Term) (n : List ℕ) (rest : List Term) → IsName ts n rest → sees s ts ≡ false
unfolding sees
name_sees s none _ _ _ (named t rest may call) = bool_cases (same t.sign s)
    (λ e. absurd (false≢true (sym none ∙ (ap may_name (sym (same_is t.sign s e)) ∙ may)))) (λ e. e)

and_false : (b : Bool) → (b && false) ≡ false
and_false true = refl
and_false false = refl

pub name_calls : (s : Sign) → same s sign.Name ≡ false → (ts : List Term) (n : List ℕ) (rest : List Term) → IsName ts n rest → sees_call s ts ≡ false
unfolding sees_call
name_calls s other _ _ _ (named t rest may call) = bool_cases (same t.sign s)
    (λ e.
    let closed : (not (same s sign.Name) && sees sign.Open rest) ≡ false = ap (λ x. not (same x sign.Name) && sees sign.Open rest) (sym (same_is t.sign s e)) ∙ call in
    let free : sees sign.Open rest ≡ false = ap (λ b. not b && sees sign.Open rest) (sym other) ∙ closed in
    ap (λ b. same t.sign s && b) free ∙ and_false (same t.sign s))
    (λ e. ap (λ b. b && sees sign.Open rest) e)

pub attr_complete : (ts : List Term) (n : List ℕ) (rest : List Term) → IsAttr ts n rest → attr_at ts ≡ Some (n, rest)
unfolding attr_at
attr_complete _ _ _ (attr ts n rest is lawful) = chain_some _ (name_at ts) n rest (name_complete ts n rest is) ∙ ap (passed n rest) lawful

pub attr_shorter : (ts : List Term) (n : List ℕ) (rest : List Term) → IsAttr ts n rest → length rest < length ts
attr_shorter _ _ _ (attr ts n rest is lawful) = name_shorter ts n rest is

pub attr_sees : (s : Sign) → may_name s ≡ false → (ts : List Term) (n : List ℕ) (rest : List Term) → IsAttr ts n rest → sees s ts ≡ false
attr_sees s none _ _ _ (attr ts n rest is lawful) = name_sees s none ts n rest is

pub attr_calls : (s : Sign) → same s sign.Name ≡ false → (ts : List Term) (n : List ℕ) (rest : List Term) → IsAttr ts n rest → sees_call s ts ≡ false
attr_calls s other _ _ _ (attr ts n rest is lawful) = name_calls s other ts n rest is

pub quoted_complete : (ts : List Term) (v : List ℕ) (rest : List Term) → IsQuoted ts v rest → text_at sign.Quoted ts ≡ Some (v, rest)
quoted_complete _ _ _ (quoted t rest is) = text_yes sign.Quoted t rest is

pub quoted_shorter : (ts : List Term) (v : List ℕ) (rest : List Term) → IsQuoted ts v rest → length rest < length ts
quoted_shorter _ _ _ (quoted t rest is) = omega arith

pub item_name_complete : (ts rest : List Term) → IsItemName ts rest → item_name_at ts ≡ Some (tt, rest)
unfolding item_name_at
item_name_complete _ _ (item_name f o c rest is_f is_o is_c) =
    chain_some _ (expect sign.ItemName (f ∷ o ∷ c ∷ rest)) tt (o ∷ c ∷ rest) (expect_yes sign.ItemName f (o ∷ c ∷ rest) is_f)
    ∙ (chain_some _ (expect sign.Open (o ∷ c ∷ rest)) tt (c ∷ rest) (expect_yes sign.Open o (c ∷ rest) is_o) ∙ expect_yes sign.Close c rest is_c)

pub item_name_called : (ts rest : List Term) → IsItemName ts rest → sees_call sign.ItemName ts ≡ true
item_name_called _ _ (item_name f o c rest is_f is_o is_c) = call_yes sign.ItemName f o (c ∷ rest) is_f is_o

pub item_name_sees : (s : Sign) → same sign.ItemName s ≡ false → (ts rest : List Term) → IsItemName ts rest → sees s ts ≡ false
item_name_sees s differs _ _ (item_name f o c rest is_f is_o is_c) = sees_no s sign.ItemName f (o ∷ c ∷ rest) is_f differs

pub item_name_shorter : (ts rest : List Term) → IsItemName ts rest → length rest < length ts
item_name_shorter _ _ (item_name f o c rest is_f is_o is_c) = omega arith

-- ---- lists

-- a turn of a list and the turns after it
pub turn : {A : Type 0} (s : Sign) (item : Reader A) (n : ℕ) (t : Term) (ts mid rest : List Term) (one : A) (others : List A) → t.sign ≡ s → item ts ≡ Some (one, mid) →
    more n s item mid ≡ Some (others, rest) → more (suc n) s item (t ∷ ts) ≡ Some (one ∷ others, rest)
unfolding more
turn s item n t ts mid rest one others is first after =
    if_yes (sees s (t ∷ ts)) (chain (item ts) (λ o m. chain (more n s item m) (λ os r. Some (o ∷ os, r)))) (Some ([], t ∷ ts)) (sees_yes s t ts is)
    ∙ (chain_some _ (item ts) one mid first ∙ chain_some _ (more n s item mid) others rest after)

pub last_turn : {A : Type 0} (s : Sign) (item : Reader A) (n : ℕ) (ts : List Term) → sees s ts ≡ false → more n s item ts ≡ Some ([], ts)
unfolding more
last_turn s item zero ts none = if_no (sees s ts) None (Some ([], ts)) none
last_turn s item (suc n) ts none = if_no (sees s ts) (chain (item (drop 1 ts)) (λ o m. chain (more n s item m) (λ os r. Some (o ∷ os, r)))) (Some ([], ts)) none

pub whole_list : {A : Type 0} (s : Sign) (item : Reader A) (ts mid rest : List Term) (one : A) (others : List A) → item ts ≡ Some (one, mid) → more (length mid) s item mid ≡ Some (others, rest) →
    listed s item ts ≡ Some (one ∷ others, rest)
unfolding listed
whole_list s item ts mid rest one others first after = chain_some _ (item ts) one mid first ∙ chain_some _ (more (length mid) s item mid) others rest after

module _ {A : Type 0} (s : Sign) (item : Reader A) (Item : List Term → A → List Term → Type 0) (complete : (ts : List Term) (a : A) (rest : List Term) → Item ts a rest → item ts ≡ Some (a, rest))
    (shorter : (ts : List Term) (a : A) (rest : List Term) → Item ts a rest → length rest < length ts) where
  further_complete : (n : ℕ) (ts : List Term) (xs : List A) (rest : List Term) → Further s Item ts xs rest → length ts ≤ n → sees s rest ≡ false → more n s item ts ≡ Some (xs, rest)
  further_complete n _ _ _ (no_further rest) enough ends = last_turn s item n rest ends
  further_complete zero _ _ _ (one_further t ts one mid others rest is first after) enough ends = absurd (let none : suc (length ts) ≤ 0 = enough in omega arith)
  further_complete (suc n) _ _ _ (one_further t ts one mid others rest is first after) enough ends =
      turn s item n t ts mid rest one others is (complete ts one mid first) (further_complete n mid others rest after (omega (arith, shorter ts one mid first)) ends)

  pub listing_complete : (ts : List Term) (xs : List A) (rest : List Term) → Listing s Item ts xs rest → sees s rest ≡ false → listed s item ts ≡ Some (xs, rest)
  listing_complete _ _ _ (listing ts one mid others rest first after) ends =
      whole_list s item ts mid rest one others (complete ts one mid first) (further_complete (length mid) mid others rest after (omega arith) ends)

  further_shorter : (ts : List Term) (xs : List A) (rest : List Term) → Further s Item ts xs rest → length rest ≤ length ts
  further_shorter _ _ _ (no_further rest) = omega arith
  further_shorter _ _ _ (one_further t ts one mid others rest is first after) = omega (arith, shorter ts one mid first, further_shorter mid others rest after)

  pub listing_shorter : (ts : List Term) (xs : List A) (rest : List Term) → Listing s Item ts xs rest → length rest < length ts
  listing_shorter _ _ _ (listing ts one mid others rest first after) = omega (arith, shorter ts one mid first, further_shorter mid others rest after)
