-- What is seen of the entries above a key.
use Rattle.std.proofs.Common.{◌≡◌, ℕ, Bool, true, false, cond, ◌&&◌, List, [], ◌∷◌, ◌++◌, filter, slice_get, Option, Some, None, refl, sym, ap, ◌∙◌, is_lt, IfSome, Bor}
use Rattle.std.specs.Option.{option_copied}
use Rattle.std.specs.Bound.{bound_map}
use Rattle.std.specs.BTreeMap.Range.{range_contains}
use Rattle.std.specs.declared.ops.Bound.TheVariants.{Unbounded}
use Rattle.sdb_base.specs.Texts.{text_cmp}
use Rattle.sdb_base.proofs.Cases.{by_bool}
use Rattle.sdb_domain.specs.Keyed.{with_shown, seen, bound_after}
use Rattle.sdb_domain.specs.LookUps.{entries_after, least_after}

pub some_weaker : {X : Type 0} (P Q : X → Type 0) (o : Option X) → ((x : X) → P x → Q x) → IfSome o P → IfSome o Q
some_weaker P Q None f h = tt
some_weaker P Q (Some x) f h = f x h

and_true : (b : Bool) → (b && true) ≡ b
and_true true = refl
and_true false = refl

module _ {X : Type 0} where
  filter_trues : (es : List (List ℕ × X)) → filter (λ e. true && true) es ≡ es
  filter_trues [] = refl
  filter_trues (e ∷ es) = ap (λ l. e ∷ l) (filter_trues es)

  filter_and_true : (p : List ℕ × X → Bool) (es : List (List ℕ × X)) → filter (λ e. p e && true) es ≡ filter p es
  filter_and_true p [] = refl
  filter_and_true p (e ∷ es) = ap (λ b. cond b (e ∷ filter (λ x. p x && true) es) (filter (λ x. p x && true) es)) (and_true (p e)) ∙ ap (λ l. cond (p e) (e ∷ l) l) (filter_and_true p es)

  -- what a range from that bound on gives
  pub between_after : (es : List (List ℕ × X)) (after : Option (Bor (List ℕ))) → filter (λ e. range_contains text_cmp (bound_map (λ x. x.now) (bound_after after)) Unbounded e.0) es ≡ entries_after es (option_copied after)
  between_after es None = filter_trues es
  between_after es (Some key) = filter_and_true (λ e. is_lt (text_cmp key.now e.0)) es

module _ {X Y : Type 0} (see : X → Option Y) where
  pub seen-append : (xs ys : List (List ℕ × X)) → seen see (xs ++ ys) ≡ seen see xs ++ seen see ys
  seen-append [] ys = refl
  seen-append (e ∷ xs) ys =
      let ih = seen-append xs ys in
      elim (see e.1) as (λ o. with_shown e.0 o (seen see (xs ++ ys)) ≡ with_shown e.0 o (seen see xs) ++ seen see ys) [ None ↦ ih | Some y ↦ ap (λ l. (e.0, y) ∷ l) ih ]

  -- a test of keys, before and after hiding
  seen-filter : (test : List ℕ → Bool) (es : List (List ℕ × X)) → seen see (filter (λ e. test e.0) es) ≡ filter (λ e. test e.0) (seen see es)
  seen-filter test [] = refl
  seen-filter test (e ∷ es) =
      let ih = seen-filter test es in
      by_bool (test e.0)
      (λ t.
      ap (λ b. seen see (cond b (e ∷ filter (λ x. test x.0) es) (filter (λ x. test x.0) es))) t
      ∙ ap (with_shown e.0 (see e.1)) ih
      ∙ sym (kept (see e.1) t))
      (λ f.
      ap (λ b. seen see (cond b (e ∷ filter (λ x. test x.0) es) (filter (λ x. test x.0) es))) f
      ∙ ih
      ∙ sym (lost (see e.1) f))
    where
      kept : (o : Option Y) → test e.0 ≡ true → filter (λ x. test x.0) (with_shown e.0 o (seen see es)) ≡ with_shown e.0 o (filter (λ x. test x.0) (seen see es))
      kept None t = refl
      kept (Some y) t = ap (λ b. cond b ((e.0, y) ∷ filter (λ x. test x.0) (seen see es)) (filter (λ x. test x.0) (seen see es))) t

      lost : (o : Option Y) → test e.0 ≡ false → filter (λ x. test x.0) (with_shown e.0 o (seen see es)) ≡ filter (λ x. test x.0) (seen see es)
      lost None f = refl
      lost (Some y) f = ap (λ b. cond b ((e.0, y) ∷ filter (λ x. test x.0) (seen see es)) (filter (λ x. test x.0) (seen see es))) f

  seen-after : (es : List (List ℕ × X)) (after : Option (List ℕ)) → seen see (entries_after es after) ≡ entries_after (seen see es) after
  seen-after es None = refl
  seen-after es (Some key) = seen-filter (λ k. is_lt (text_cmp key k)) es

  -- the first that is seen, behind hidden ones
  pub least_found : (es : List (List ℕ × X)) (after : Option (List ℕ)) (front : List (List ℕ × X)) (k : List ℕ) (x : X) (y : Y) (rest : List (List ℕ × X))
      → entries_after es after ≡ front ++ (k, x) ∷ rest → seen see front ≡ [] → see x ≡ Some y → Some (k, y) ≡ least_after (seen see es) after
  least_found es after front k x y rest e hidden shows =
      sym (ap (λ l. slice_get l 0) (sym (seen-after es after) ∙ ap (seen see) e ∙ seen-append front ((k, x) ∷ rest) ∙ ap (λ l. l ++ seen see ((k, x) ∷ rest)) hidden ∙ ap (λ o. with_shown k o (seen see rest)) shows))

  pub least_none : (es : List (List ℕ × X)) (after : Option (List ℕ)) (front : List (List ℕ × X)) → entries_after es after ≡ front → seen see front ≡ [] → None ≡ least_after (seen see es) after
  least_none es after front e hidden = sym (ap (λ l. slice_get l 0) (sym (seen-after es after) ∙ ap (seen see) e ∙ hidden))

  pub hidden_more : (front : List (List ℕ × X)) (k : List ℕ) (x : X) → seen see front ≡ [] → see x ≡ None → seen see (front ++ (k, x) ∷ []) ≡ []
  hidden_more front k x hidden hides = seen-append front ((k, x) ∷ []) ∙ ap (λ l. l ++ seen see ((k, x) ∷ [])) hidden ∙ ap (λ o. with_shown k o []) hides

pub append_nil : {X : Type 0} (xs : List X) → xs ++ [] ≡ xs
append_nil [] = refl
append_nil (x ∷ xs) = ap (λ l. x ∷ l) (append_nil xs)
