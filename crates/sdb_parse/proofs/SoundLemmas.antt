-- What a reader gives is what the grammar says.
use Rattle.std.proofs.Common.{◌≡◌, ℕ, zero, suc, Bool, true, false, not, ◌&&◌, List, [], ◌∷◌, length, drop, Option, Some, None, if◌then◌else◌, refl, sym, subst}
use Rattle.std.proofs.lemmas.Bool.{false≢true}
use Rattle.sdb_base.specs.Names.{is_name}
use Rattle.sdb_parse.specs.declared.sign.Sign.{Sign}
use Rattle.sdb_parse.specs.declared.sign.Sign.TheVariants as sign
use Rattle.sdb_parse.specs.declared.term.Term.{Term}
use Rattle.sdb_parse.specs.Signs.{may_name, same}
use Rattle.sdb_parse.specs.Reading.{Reader, attr_at, chain, expect, item_name_at, listed, more, name_at, sees, text_at}
use Rattle.sdb_parse.specs.Grammar.{is_call, IsName, named, IsAttr, attr, IsQuoted, quoted, IsItemName, item_name, Further, no_further, one_further, Listing, listing}
use Rattle.sdb_parse.proofs.SignLemmas.{same_is}

-- ---- steps of a reading

pub on_some : {A : Type 0} (x y : A) → Some x ≡ Some y → x ≡ y
on_some x y e = cc

pub not_none : {A : Type 0} (x : A) → None ≡ Some x → ⊥
not_none x e = cc

pub on_chain : {A B C : Type 0} (got : Option (A × List Term)) (next : A → Reader B) (b : B) (rest : List Term) → chain got next ≡ Some (b, rest) →
    ((a : A) (mid : List Term) → got ≡ Some (a, mid) → next a mid ≡ Some (b, rest) → C) → C
on_chain {B = B} None next b rest e k = absurd (not_none {A = B × List Term} (b, rest) e)
on_chain (Some read) next b rest e k = k read.0 read.1 refl e

pub on_if : {X C : Type 0} (b : Bool) (x y z : X) → (if b then x else y) ≡ z → (b ≡ true → x ≡ z → C) → (b ≡ false → y ≡ z → C) → C
on_if true x y z e then_so else_so = then_so refl e
on_if false x y z e then_so else_so = else_so refl e

-- what a reader gives
abbrev pub Got : Type 0 → Type 0
Got A = Option (A × List Term)

pub same_read : {A : Type 0} (v b : A) (left rest : List Term) → ◌≡◌ {A = Option (A × List Term)} (Some (v, left)) (Some (b, rest)) → (let x : A × List Term = (v, left) in let y : A × List Term = (b, rest) in x ≡ y)
same_read {A} v b left rest e = let x : A × List Term = (v, left) in let y : A × List Term = (b, rest) in on_some x y e

-- what was read, and the rest
pub done : {A : Type 0} (R : A → List Term → Type 0) (v b : A) (left rest : List Term) → ◌≡◌ {A = Option (A × List Term)} (Some (v, left)) (Some (b, rest)) → R v left → R b rest
done {A} R v b left rest e r = subst (λ (p : A × List Term). R p.0 p.1) (same_read v b left rest e) r

pub on_sees : (C : List Term → Type 0) (s : Sign) (ts : List Term) → sees s ts ≡ true → ((t : Term) → t.sign ≡ s → C (t ∷ drop 1 ts)) → C ts
unfolding sees
on_sees C s [] e k = absurd (false≢true e)
on_sees C s (t ∷ ts) e k = k t (same_is t.sign s e)

pub on_expect : (C : List Term → Type 0) (s : Sign) (ts rest : List Term) (u : Unit {0}) → expect s ts ≡ Some (u, rest) → ((t : Term) → t.sign ≡ s → C (t ∷ rest)) → C ts
unfolding expect
on_expect C s ts rest u e k = on_if {X = Got (Unit {0})} (sees s ts) (Some (tt, drop 1 ts)) None (Some (u, rest)) e
    (λ seen got. on_sees C s ts seen (λ t is. subst (λ (p : Unit {0} × List Term). C (t ∷ p.1)) (sym (same_read tt u (drop 1 ts) rest got)) (k t is)))
    (λ seen got. absurd (not_none {A = Unit {0} × List Term} (u, rest) got))

pub on_text : (C : List Term → List ℕ → Type 0) (s : Sign) (ts rest : List Term) (v : List ℕ) → text_at s ts ≡ Some (v, rest) → ((t : Term) → t.sign ≡ s → C (t ∷ rest) t.text) → C ts v
unfolding text_at
on_text C s [] rest v e k = absurd (not_none {A = List ℕ × List Term} (v, rest) e)
on_text C s (t ∷ ts) rest v e k = on_if {X = Got (List ℕ)} (same t.sign s) (Some (t.text, ts)) None (Some (v, rest)) e
    (λ seen got. subst (λ (p : List ℕ × List Term). C (t ∷ ts) p.0) (same_read t.text v ts rest got)
    (subst (λ (p : List ℕ × List Term). C (t ∷ p.1) t.text) (sym (same_read t.text v ts rest got)) (k t (same_is t.sign s seen))))
    (λ seen got. absurd (not_none {A = List ℕ × List Term} (v, rest) got))

-- ---- names

both_are : (a b : Bool) → (a && b) ≡ true → (a ≡ true) × (b ≡ true)
both_are true true e = (refl, refl)
both_are true false e = absurd (false≢true e)
both_are false b e = absurd (false≢true e)

not_is : (a : Bool) → not a ≡ true → a ≡ false
not_is true e = absurd (false≢true e)
not_is false e = refl

pub name_sound : (ts : List Term) (n : List ℕ) (rest : List Term) → name_at ts ≡ Some (n, rest) → IsName ts n rest
unfolding name_at
name_sound [] n rest e = absurd (not_none {A = List ℕ × List Term} (n, rest) e)
name_sound (t ∷ ts) n rest e = on_if {X = Got (List ℕ)} (may_name t.sign && not (is_call t ts)) (Some (t.text, ts)) None (Some (n, rest)) e
    (λ test got.
    let both = both_are (may_name t.sign) (not (is_call t ts)) test in
    done (IsName (t ∷ ts)) t.text n ts rest got (named t ts both.0 (not_is (is_call t ts) both.1)))
    (λ test got. absurd (not_none {A = List ℕ × List Term} (n, rest) got))

pub attr_sound : (ts : List Term) (n : List ℕ) (rest : List Term) → attr_at ts ≡ Some (n, rest) → IsAttr ts n rest
unfolding attr_at
attr_sound ts n rest e = on_chain (name_at ts) _ n rest e (λ m mid got next.
    on_if {X = Got (List ℕ)} (is_name m) (Some (m, mid)) None (Some (n, rest)) next
    (λ lawful same. done (IsAttr ts) m n mid rest same (attr ts m mid (name_sound ts m mid got) lawful))
    (λ lawful none. absurd (not_none {A = List ℕ × List Term} (n, rest) none)))

pub quoted_sound : (ts : List Term) (v : List ℕ) (rest : List Term) → text_at sign.Quoted ts ≡ Some (v, rest) → IsQuoted ts v rest
quoted_sound ts v rest e = on_text (λ l w. IsQuoted l w rest) sign.Quoted ts rest v e (λ t is. quoted t rest is)

pub item_name_sound : (ts : List Term) (u : Unit {0}) (rest : List Term) → item_name_at ts ≡ Some (u, rest) → IsItemName ts rest
unfolding item_name_at
item_name_sound ts u rest e = on_chain (expect sign.ItemName ts) _ u rest e (λ v a got1 next1. on_chain (expect sign.Open a) _ u rest next1 (λ w b got2 got3.
    on_expect (λ l. IsItemName l rest) sign.ItemName ts a v got1 (λ f is_f. on_expect (λ l. IsItemName (f ∷ l) rest) sign.Open a b w got2 (λ o is_o.
    on_expect (λ l. IsItemName (f ∷ o ∷ l) rest) sign.Close b rest u got3 (λ c is_c. item_name f o c rest is_f is_o is_c)))))

-- ---- lists

module _ {A : Type 0} (s : Sign) (item : Reader A) (Item : List Term → A → List Term → Type 0) (sound : (ts : List Term) (a : A) (rest : List Term) → item ts ≡ Some (a, rest) → Item ts a rest) where
  pub further_sound : (n : ℕ) (ts : List Term) (xs : List A) (rest : List Term) → more n s item ts ≡ Some (xs, rest) → Further s Item ts xs rest
  unfolding more
  further_sound zero ts xs rest e = on_if {X = Got (List A)} (sees s ts) None (Some ([], ts)) (Some (xs, rest)) e
      (λ seen none. absurd (not_none {A = List A × List Term} (xs, rest) none))
      (λ seen got. done (Further s Item ts) [] xs ts rest got (no_further ts))
  further_sound (suc n) ts xs rest e =
      on_if {X = Got (List A)} (sees s ts) (chain (item (drop 1 ts)) (λ one mid. chain (more n s item mid) (λ others left. Some (one ∷ others, left)))) (Some ([], ts)) (Some (xs, rest)) e
      (λ seen got. on_chain (item (drop 1 ts)) _ xs rest got (λ one mid got1 next1. on_chain (more n s item mid) _ xs rest next1 (λ others left got2 got3.
      done (Further s Item ts) (one ∷ others) xs left rest got3
      (on_sees (λ l. Further s Item l (one ∷ others) left) s ts seen (λ t is.
      one_further t (drop 1 ts) one mid others left is (sound (drop 1 ts) one mid got1) (further_sound n mid others left got2))))))
      (λ seen got. done (Further s Item ts) [] xs ts rest got (no_further ts))

  pub listing_sound : (ts : List Term) (xs : List A) (rest : List Term) → listed s item ts ≡ Some (xs, rest) → Listing s Item ts xs rest
  unfolding listed
  listing_sound ts xs rest e = on_chain (item ts) _ xs rest e (λ one mid got1 next1. on_chain (more (length mid) s item mid) _ xs rest next1 (λ others left got2 got3.
      done (Listing s Item ts) (one ∷ others) xs left rest got3
      (listing ts one mid others left (sound ts one mid got1) (further_sound (length mid) mid others left got2))))
