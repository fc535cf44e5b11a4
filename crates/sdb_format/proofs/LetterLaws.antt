-- Texts of a known length are formats.
use Rattle.std.proofs.Common.{◌≡◌, ◌≢◌, ℕ, zero, suc, ◌+◌, ◌-◌, ◌≤◌, ◌<◌, ◌^◌, ◌⊎◌, inl, inr, Bool, true, false, ◌&&◌, ◌==◌, nat_le, nat_lt, if◌then◌else◌, List, [], ◌∷◌, ◌++◌, length, take, drop, Option, None, Some, MatchOption, Ok, Err, get_or, refl, sym, ◌∙◌, ap, subst, arith, IsUtf8}
use Rattle.std.proofs.Math.Seq.{drop-cons, take-append_seam}
use Rattle.std.proofs.lemmas.List.{drop_all, length-append}
use Rattle.std.proofs.lemmas.Bool.{leb-true, le-leb, eq-eqb, ne_eqb, cases_eq}
use Rattle.std.specs.Str.Lossy.{second_byte_min, second_byte_max}
use Rattle.sdb_format.specs.declared.fault.FormatFault.TheVariants.{Short, Bad}
use Rattle.sdb_format.specs.declared.place.Place.{Place}
use Rattle.sdb_format.specs.Readers.{Reading, second}
use Rattle.sdb_format.specs.Format.{Begins, Judged, Format}
use Rattle.sdb_format.specs.Numbers.{IsWithin, be16, u16_in}
use Rattle.sdb_format.specs.Letters.{at_place, between, after_first, after_later, after_byte, with_letter, step_to, letters_from, letters_at, AreLetters, text_in, text_bytes, IsTextWithin}
use Rattle.sdb_format.proofs.FormatLaws.{then_format, seen_format, same_format}
use Rattle.sdb_format.proofs.NumberLaws.{u16_format}
use Rattle.sdb_format.proofs.Utf8Lemmas.{Accepts, accepts_more, later_step, accepts_utf8, utf8_accepted, second_range}

-- ---- one step
-- the place after a byte can be left again, and takes up one byte at most
pub record IsAfter (p q : Place) : Type 0 where
  pub range : q.least ≤ q.most
  pub left : p.left ≤ q.left + 1

after_first_range : (b : ℕ) → MatchOption (after_first b) (Unit {0}) (λ q. q.least ≤ q.most)
after_first_range b = by (nat_lt b 128) (nat_lt b 194) (nat_lt b 224) (nat_lt b 240) (nat_lt b 245)
  where
    seconds : second_byte_min b ≤ second_byte_max b
    seconds = second_range b

    by : (s t u v w : Bool) → MatchOption (if s then Some between else (if t then None else (if u then Some (at_place (second_byte_min b) (second_byte_max b) 1)
        else (if v then Some (at_place (second_byte_min b) (second_byte_max b) 2) else (if w then Some (at_place (second_byte_min b) (second_byte_max b) 3) else None)))))
        (Unit {0}) (λ q. q.least ≤ q.most)
    by true t u v w = omega arith
    by false true u v w = tt
    by false false true v w = seconds
    by false false false true w = seconds
    by false false false false true = seconds
    by false false false false false = tt

is_after : (p : Place) (b : ℕ) → MatchOption (after_byte p b) (Unit {0}) (IsAfter p)
is_after p b = by (cases_eq p.left 0)
  where
    by_first : (o : Option Place) → p.left ≡ 0 → MatchOption o (Unit {0}) (λ q. q.least ≤ q.most) → MatchOption o (Unit {0}) (IsAfter p)
    by_first None e range = tt
    by_first (Some q) e range = record { range = range; left = omega arith }

    by_later : (t : Bool) → MatchOption (if t then Some (at_place 128 191 (p.left - 1)) else None) (Unit {0}) (IsAfter p)
    by_later true = record { range = omega arith; left = omega arith }
    by_later false = tt

    by : (p.left ≡ 0) ⊎ (p.left ≡ 0 → ⊥) → MatchOption (after_byte p b) (Unit {0}) (IsAfter p)
    by (inl e) = subst (λ t. MatchOption (if t then after_first b else after_later p b) (Unit {0}) (IsAfter p)) (sym (eq-eqb p.left 0 e)) (by_first (after_first b) e (after_first_range b))
    by (inr n) = subst (λ t. MatchOption (if t then after_first b else after_later p b) (Unit {0}) (IsAfter p)) (sym (ne_eqb p.left 0 n)) (by_later (nat_le p.least b && nat_le b p.most))

step_after : (p q : Place) (b : ℕ) → after_byte p b ≡ Some q → IsAfter p q
step_after p q b step = subst (λ o. MatchOption o (Unit {0}) (IsAfter p)) step (is_after p b)

-- a character that is begun has room in what is accepted
enough : (bs : List ℕ) (p : Place) → Accepts p bs → p.left ≤ length bs
enough [] p accepted = omega (arith, accepted)
enough (b ∷ bs) p accepted = by (λ q goes. enough bs q goes) (after_byte p b) refl accepted
  where
    by : ((q : Place) → Accepts q bs → q.left ≤ length bs) → (o : Option Place) → after_byte p b ≡ o → MatchOption o ⊥ (λ q. Accepts q bs) → p.left ≤ length (b ∷ bs)
    by later None e none = absurd none
    by later (Some q) e goes = omega (arith, (step_after p q b e).left, later q goes)

-- ---- reading goes on as its steps do
pub step_is : (p q : Place) (n b : ℕ) (bs : List ℕ) → after_byte p b ≡ Some q → q.left ≤ n → letters_from p (suc n) (b ∷ bs) ≡ with_letter b (letters_from q n bs)
step_is p q n b bs step fits =
    ap (λ o. with_letter b (step_to n o (λ r. letters_from r n bs))) step
    ∙ ap (λ t. with_letter b (if t then letters_from q n bs else Err Bad)) (le-leb q.left n fits)

pub step_fails : (p : Place) (n b : ℕ) (bs : List ℕ) → after_byte p b ≡ None → letters_from p (suc n) (b ∷ bs) ≡ Err Bad
step_fails p n b bs step = ap (λ o. with_letter b (step_to n o (λ r. letters_from r n bs))) step

pub step_too_long : (p q : Place) (n b : ℕ) (bs : List ℕ) → after_byte p b ≡ Some q → nat_le q.left n ≡ false → letters_from p (suc n) (b ∷ bs) ≡ Err Bad
step_too_long p q n b bs step long =
    ap (λ o. with_letter b (step_to n o (λ r. letters_from r n bs))) step
    ∙ ap (λ t. with_letter b (if t then letters_from q n bs else Err Bad)) long

-- so many bytes that go on a text
pub record GoOn (p : Place) (n : ℕ) (bs : List ℕ) : Type 0 where
  pub size : length bs ≡ n
  pub accepted : Accepts p bs

abbrev itself : List ℕ → List ℕ
itself bs = bs

letters_again : (bs : List ℕ) (p : Place) (n : ℕ) (rest : List ℕ) → GoOn p n bs → letters_from p n (bs ++ rest) ≡ Ok (bs, rest)
letters_again [] p zero rest on = ap (λ t. if t then Ok ([], rest) else Err Bad) (eq-eqb p.left 0 on.accepted)
letters_again [] p (suc n) rest on = absurd (omega (arith, on.size))
letters_again (b ∷ bs) p zero rest on = absurd (omega (arith, on.size))
letters_again (b ∷ bs) p (suc n) rest on = by (λ q goes. letters_again bs q n rest goes) (after_byte p b) refl on.accepted
  where
    by : ((q : Place) → GoOn q n bs → letters_from q n (bs ++ rest) ≡ Ok (bs, rest)) → (o : Option Place) → after_byte p b ≡ o → MatchOption o ⊥ (λ q. Accepts q bs)
        → letters_from p (suc n) (b ∷ (bs ++ rest)) ≡ Ok (b ∷ bs, rest)
    by later None e none = absurd none
    by later (Some q) e goes =
        step_is p q n b (bs ++ rest) e (omega (arith, on.size, enough bs q goes))
        ∙ ap (with_letter b) (later q (record { size = omega (arith, on.size); accepted = goes }))

-- bytes that fill up a text
fill : Place → ℕ → List ℕ
fill p zero = []
fill p (suc n) = if p.left == 0 then 97 ∷ fill between n else p.least ∷ fill (at_place 128 191 (p.left - 1)) n

fill_goes_on : (n : ℕ) (p : Place) → p.least ≤ p.most → p.left ≤ n → GoOn p n (fill p n)
unfolding fill
fill_goes_on zero p range fits = record { size = refl; accepted = omega arith }
fill_goes_on (suc n) p range fits = by (λ q range fits. fill_goes_on n q range fits) (cases_eq p.left 0)
  where
    at_start : p.left ≡ 0 → after_byte p 97 ≡ Some between
    at_start e = ap (λ t. if t then after_first 97 else after_later p 97) (eq-eqb p.left 0 e)

    by : ((q : Place) → q.least ≤ q.most → q.left ≤ n → GoOn q n (fill q n)) → (p.left ≡ 0) ⊎ (p.left ≡ 0 → ⊥) → GoOn p (suc n) (fill p (suc n))
    by later (inl e) = subst (λ t. GoOn p (suc n) (if t then 97 ∷ fill between n else p.least ∷ fill (at_place 128 191 (p.left - 1)) n)) (sym (eq-eqb p.left 0 e))
        (let on = later between (omega arith) (omega arith) in record { size = omega (arith, on.size); accepted = accepts_more p between 97 (fill between n) (at_start e) on.accepted })
    by later (inr some) = subst (λ t. GoOn p (suc n) (if t then 97 ∷ fill between n else p.least ∷ fill (at_place 128 191 (p.left - 1)) n)) (sym (ne_eqb p.left 0 some))
        (let on = later (at_place 128 191 (p.left - 1)) (omega arith) (omega arith) in record {
          size = omega (arith, on.size);
          accepted = accepts_more p _ p.least (fill (at_place 128 191 (p.left - 1)) n) (later_step p p.least (omega (arith, some)) (omega arith) range) on.accepted;
        })

more_begins : (p : Place) (n : ℕ) → p.least ≤ p.most → p.left ≤ suc n → Begins (GoOn p (suc n)) itself []
more_begins p n range fits = let on = fill_goes_on (suc n) p range fits in record {
  value = fill p (suc n);
  fits = on;
  more = fill p (suc n);
  some = λ e. absurd (omega (arith, on.size, ap length e));
  text_is = refl;
}

abbrev JudgedLater : ℕ → List ℕ → Type 0
JudgedLater n bs = (q : Place) → q.least ≤ q.most → q.left ≤ n → Judged (GoOn q n) itself (letters_from q n) bs (letters_from q n bs)

letters_judged : (bs : List ℕ) (p : Place) (n : ℕ) → p.least ≤ p.most → p.left ≤ n → Judged (GoOn p n) itself (letters_from p n) bs (letters_from p n bs)
letters_judged bs p zero range fits = let none : p.left ≡ 0 = omega arith in
    subst (λ t. Judged (GoOn p 0) itself (letters_from p 0) bs (if t then Ok ([], bs) else Err Bad)) (sym (eq-eqb p.left 0 none))
    (record { fits = record { size = refl; accepted = none }; bytes_are = refl })
letters_judged [] p (suc n) range fits = more_begins p n range fits
letters_judged (b ∷ bs) p (suc n) range fits = by (λ q range fits. letters_judged bs q n range fits) (after_byte p b) refl
  where
    by_rest : (q : Place) → after_byte p b ≡ Some q → q.left ≤ n → (r : Reading (List ℕ)) → Judged (GoOn q n) itself (letters_from q n) bs r
        → Judged (GoOn p (suc n)) itself (letters_from p (suc n)) (b ∷ bs) (with_letter b r)
    by_rest q e fits (Ok x) taken = record {
      fits = record { size = omega (arith, taken.fits.size); accepted = accepts_more p q b x.0 e taken.fits.accepted };
      bytes_are = ap (λ l. b ∷ l) taken.bytes_are;
    }
    by_rest q e fits (Err Short) begins = record {
      value = b ∷ begins.value;
      fits = record { size = omega (arith, begins.fits.size); accepted = accepts_more p q b begins.value e begins.fits.accepted };
      more = begins.more;
      some = begins.some;
      text_is = ap (λ l. b ∷ l) begins.text_is;
    }
    by_rest q e fits (Err Bad) bad = λ more. step_is p q n b (bs ++ more) e fits ∙ ap (with_letter b) (bad more)

    by_test : JudgedLater n bs → (q : Place) → after_byte p b ≡ Some q → (t : Bool) → nat_le q.left n ≡ t
        → Judged (GoOn p (suc n)) itself (letters_from p (suc n)) (b ∷ bs) (with_letter b (if t then letters_from q n bs else Err Bad))
    by_test later q e false long = λ more. step_too_long p q n b (bs ++ more) e long
    by_test later q e true fits = let le = leb-true q.left n fits in by_rest q e le (letters_from q n bs) (later q (step_after p q b e).range le)

    by : JudgedLater n bs → (o : Option Place) → after_byte p b ≡ o
        → Judged (GoOn p (suc n)) itself (letters_from p (suc n)) (b ∷ bs) (with_letter b (step_to n o (λ q. letters_from q n bs)))
    by later None e = λ more. step_fails p n b (bs ++ more) e
    by later (Some q) e = by_test later q e (nat_le q.left n) refl

pub letters_format : (n : ℕ) → Format (AreLetters n) (λ bs. bs) (letters_at n)
letters_format n = same_format (GoOn between n) (AreLetters n) itself (letters_at n)
    (λ bs on. record { size = on.size; utf8 = utf8_accepted bs on.accepted })
    (λ bs are. record { size = are.size; accepted = accepts_utf8 bs are.utf8 })
    (record {
      judged = λ bs. letters_judged bs between n (omega arith) (omega arith);
      again = λ bs rest on. letters_again bs between n rest on;
      some = (fill between n, fill_goes_on n between (omega arith) (omega arith));
    })

-- a text behind its length
pub text_format : (least most : ℕ) → least ≤ most → most < 2 ^ 16 → Format (IsTextWithin least most) text_bytes (text_in least most)
text_format least most order small =
    seen_format _ _ _ (IsTextWithin least most) text_bytes second
    (then_format (IsWithin least most) be16 (u16_in least most) AreLetters (λ n text. text) letters_at (u16_format least most order small) (λ n within. letters_format n))
    forth back
  where
    forth : (x : ℕ × List ℕ) → IsWithin least most x.0 × AreLetters x.0 x.1 → IsTextWithin least most x.1 × (text_bytes x.1 ≡ be16 x.0 ++ x.1)
    forth x fits = (record { low = omega (arith, fits.0.low, fits.1.size); high = omega (arith, fits.0.high, fits.1.size); utf8 = fits.1.utf8 }, ap (λ n. be16 n ++ x.1) fits.1.size)

    back : (text : List ℕ) → IsTextWithin least most text → (x : ℕ × List ℕ) × (IsWithin least most x.0 × AreLetters x.0 x.1) × (x.1 ≡ text)
    back text is = ((length text, text), (record { low = is.low; high = is.high }, record { size = refl; utf8 = is.utf8 }), refl)

-- ---- reading from a place on
pub at_next : (p : Place) (left i : ℕ) (bs : List ℕ) → 0 < left → i < length bs
    → letters_from p left (drop i bs) ≡ letters_from p (suc (left - 1)) (get_or bs i 0 ∷ drop (i + 1) bs)
at_next p left i bs some below =
    let n : left ≡ suc (left - 1) = omega arith in
    let e : suc i ≡ i + 1 = omega arith in
    (λ k. letters_from p (n k) ((drop-cons bs i 0 below ∙ ap (λ (m : ℕ). get_or bs i 0 ∷ drop m bs) e) k))

pub none_left : (p : Place) (left i : ℕ) (bs : List ℕ) → 0 < left → length bs ≤ i → letters_from p left (drop i bs) ≡ Err Short
none_left p left i bs some past =
    let n : left ≡ suc (left - 1) = omega arith in
    (λ k. letters_from p (n k) (drop_all i bs past k))

-- all of the bytes are there: they are letters where they are UTF-8, and else Bad
pub letters_there : (n : ℕ) (bs rest : List ℕ) → length bs ≡ n → IsUtf8 bs → letters_at n (bs ++ rest) ≡ Ok (bs, rest)
letters_there n bs rest size utf8 = (letters_format n).again bs rest (record { size = size; utf8 = utf8 })

pub letters_bad : (n : ℕ) (bs rest : List ℕ) → length bs ≡ n → (IsUtf8 bs → ⊥) → letters_at n (bs ++ rest) ≡ Err Bad
letters_bad n bs rest size other = by (letters_at n (bs ++ rest)) refl ((letters_format n).judged (bs ++ rest))
  where
    too_long : (more : List ℕ) → more ≢ [] → length more ≡ 0 → ⊥
    too_long [] some e = some refl
    too_long (b ∷ more) some e = omega (arith, e)

    by : (r : Reading (List ℕ)) → letters_at n (bs ++ rest) ≡ r → Judged (AreLetters n) (λ l. l) (letters_at n) (bs ++ rest) r → letters_at n (bs ++ rest) ≡ Err Bad
    by (Ok x) e taken =
        let same : bs ≡ x.0 =
        sym (take-append_seam bs rest) ∙ (λ k. take (size k) (bs ++ rest)) ∙ ap (take n) taken.bytes_are ∙ (λ k. take (sym taken.fits.size k) (x.0 ++ x.1)) ∙ take-append_seam x.0 x.1 in
        absurd (other (subst IsUtf8 (sym same) taken.fits.utf8))
    by (Err Short) e begins = absurd (too_long begins.more begins.some (omega (arith, begins.fits.size, ap length begins.text_is, length-append (bs ++ rest) begins.more, length-append bs rest)))
    by (Err Bad) e bad = e
