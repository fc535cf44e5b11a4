-- Reading digits, in both directions.
use Rattle.std.proofs.Common.{◌≡◌, ℕ, ◌+◌, ◌-◌, ◌*◌, true, ◌&&◌, List, [], ◌∷◌, ◌++◌, Some, ◌==◌, refl, ap, sym, ◌∙◌, subst, arith}
use Rattle.std.specs.Char.{is_ascii_digit}
use Rattle.std.specs.List.{list_all}
use Rattle.std.proofs.lemmas.Bool.{cond-true, and_from, eq-eqb}
use Rattle.std.proofs.lemmas.Bool.Decides.{nat_tests}
use Rattle.sdb_time.specs.Moments.{IsNumber}
use Rattle.sdb_base.proofs.Cases.{both}
use Rattle.sdb_base.proofs.OptionLemmas.{on_some, on_guard}
use Rattle.sdb_time.specs.Reading.{two_digits, after_byte, field, four_digits}

-- two digits stand at the front
pub record StartsWithTwo (text : List ℕ) (n : ℕ) (rest : List ℕ) : Type 0 where
  pub tens : ℕ
  pub ones : ℕ
  pub tens_is : is_ascii_digit tens ≡ true
  pub ones_is : is_ascii_digit ones ≡ true
  pub text_is : text ≡ tens ∷ ones ∷ rest
  pub value : n ≡ (tens - 48) * 10 + (ones - 48)

pub two_front : (text : List ℕ) (found : ℕ × List ℕ) → two_digits text ≡ Some found → StartsWithTwo text found.0 found.1
unfolding two_digits
two_front [] found e = absurd cc
two_front (a ∷ []) found e = absurd cc
two_front (a ∷ b ∷ rest) found e =
    let h = on_guard (is_ascii_digit a && is_ascii_digit b) ((a - 48) * 10 + (b - 48), rest) found e in
    let d = both (is_ascii_digit a) (is_ascii_digit b) h.0 in
    record {
      tens = a;
      ones = b;
      tens_is = d.0;
      ones_is = d.1;
      text_is = ap (λ (x : ℕ × List ℕ). a ∷ b ∷ x.1) h.1;
      value = sym (ap (λ (x : ℕ × List ℕ). x.0) h.1);
    }

pub two_again : (a b : ℕ) (rest : List ℕ) → is_ascii_digit a ≡ true → is_ascii_digit b ≡ true → two_digits (a ∷ b ∷ rest) ≡ Some ((a - 48) * 10 + (b - 48), rest)
unfolding two_digits
two_again a b rest x y = cond-true _ _ _ (and_from _ _ x y)

pub number_of_two : (text : List ℕ) (n : ℕ) (rest : List ℕ) → StartsWithTwo text n rest → (digits : List ℕ) × IsNumber 2 digits n × (text ≡ digits ++ rest)
number_of_two text n rest s =
    (s.tens ∷ s.ones ∷ [], record { long = refl; all = and_from _ _ s.tens_is (and_from _ _ s.ones_is refl); value = s.value ∙ omega arith }, s.text_is)

pub two_complete : (digits rest : List ℕ) (n : ℕ) → IsNumber 2 digits n → two_digits (digits ++ rest) ≡ Some (n, rest)
two_complete [] rest n h = absurd (omega (arith, h.long))
two_complete (a ∷ []) rest n h = absurd (omega (arith, h.long))
two_complete (a ∷ b ∷ []) rest n h =
    let x = both (is_ascii_digit a) (list_all is_ascii_digit (b ∷ [])) h.all in
    let y = both (is_ascii_digit b) true x.1 in
    let value : (a - 48) * 10 + (b - 48) ≡ n = omega (arith, h.value) in
    two_again a b rest x.0 y.0 ∙ ap (λ k. Some (k, rest)) value
two_complete (a ∷ b ∷ c ∷ digits) rest n h = absurd (omega (arith, h.long))

pub four_sound : (text : List ℕ) (found : ℕ × List ℕ) → four_digits text ≡ Some found → (digits : List ℕ) × IsNumber 4 digits found.0 × (text ≡ digits ++ found.1)
unfolding four_digits
four_sound text found e =
    on_some (two_digits text) _ found e (λ high is_high e1.
    on_some (two_digits high.1) _ found e1 (λ low is_low e2.
    let h = two_front text high is_high in
    let l = two_front high.1 low is_low in
    let same : (high.0 * 100 + low.0, low.1) ≡ found = cc in
    let rest : low.1 ≡ found.1 = ap (λ (x : ℕ × List ℕ). x.1) same in
    let value : found.0 ≡ high.0 * 100 + low.0 = sym (ap (λ (x : ℕ × List ℕ). x.0) same) in (
      h.tens ∷ h.ones ∷ l.tens ∷ l.ones ∷ [],
      record {
        long = refl;
        all = and_from _ _ h.tens_is (and_from _ _ h.ones_is (and_from _ _ l.tens_is (and_from _ _ l.ones_is refl)));
        value = omega (arith, value, h.value, l.value);
      },
      h.text_is ∙ ap (λ t. h.tens ∷ h.ones ∷ t) l.text_is ∙ ap (λ t. h.tens ∷ h.ones ∷ l.tens ∷ l.ones ∷ t) rest,
    )))

pub four_complete : (digits rest : List ℕ) (n : ℕ) → IsNumber 4 digits n → four_digits (digits ++ rest) ≡ Some (n, rest)
unfolding four_digits
four_complete [] rest n h = absurd (omega (arith, h.long))
four_complete (a ∷ []) rest n h = absurd (omega (arith, h.long))
four_complete (a ∷ b ∷ []) rest n h = absurd (omega (arith, h.long))
four_complete (a ∷ b ∷ c ∷ []) rest n h = absurd (omega (arith, h.long))
four_complete (a ∷ b ∷ c ∷ d ∷ []) rest n h =
    let x = both (is_ascii_digit a) (list_all is_ascii_digit (b ∷ c ∷ d ∷ [])) h.all in
    let y = both (is_ascii_digit b) (list_all is_ascii_digit (c ∷ d ∷ [])) x.1 in
    let z = both (is_ascii_digit c) (list_all is_ascii_digit (d ∷ [])) y.1 in
    let w = both (is_ascii_digit d) true z.1 in
    let value : ((a - 48) * 10 + (b - 48)) * 100 + ((c - 48) * 10 + (d - 48)) ≡ n = omega (arith, h.value) in
    rw (two_again a b (c ∷ d ∷ rest) x.0 y.0, two_again c d rest z.0 w.0) (ap (λ k. Some (k, rest)) value)
four_complete (a ∷ b ∷ c ∷ d ∷ e ∷ digits) rest n h = absurd (omega (arith, h.long))

pub after_byte_sound : (c : ℕ) (text rest : List ℕ) → after_byte c text ≡ Some rest → text ≡ c ∷ rest
unfolding after_byte
after_byte_sound c [] rest e = absurd cc
after_byte_sound c (b ∷ text) rest e =
    let h = on_guard (b == c) text rest e in
    let same : b ≡ c = grind (arith, nat_tests) in
    rw (same, h.1) refl

pub after_byte_again : (c : ℕ) (rest : List ℕ) → after_byte c (c ∷ rest) ≡ Some rest
unfolding after_byte
after_byte_again c rest = cond-true _ _ _ (eq-eqb c c refl)

pub field_sound : (c : ℕ) (text : List ℕ) (found : ℕ × List ℕ) → field c text ≡ Some found → (digits : List ℕ) × IsNumber 2 digits found.0 × (text ≡ digits ++ (c ∷ found.1))
unfolding field
field_sound c text found e =
    on_some (two_digits text) _ found e (λ number is e1.
    on_some (after_byte c number.1) _ found e1 (λ rest is_rest e2.
    let same : (number.0, rest) ≡ found = cc in
    let h = number_of_two text number.0 number.1 (two_front text number is) in
    let tail = after_byte_sound c number.1 rest is_rest ∙ ap (λ (x : ℕ × List ℕ). c ∷ x.1) same in
    (h.0, subst (λ (x : ℕ × List ℕ). IsNumber 2 h.0 x.0) same h.1, h.2 ∙ ap (λ t. h.0 ++ t) tail)))

pub field_complete : (c : ℕ) (digits rest : List ℕ) (n : ℕ) → IsNumber 2 digits n → field c (digits ++ (c ∷ rest)) ≡ Some (n, rest)
unfolding field
field_complete c digits rest n h =
    rw (two_complete digits (c ∷ rest) n h, after_byte_again c rest) refl
