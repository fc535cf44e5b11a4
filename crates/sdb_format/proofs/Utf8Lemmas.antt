-- Bytes that can stand one after the other, by `after_byte`, are UTF-8, and those of UTF-8 can.
use Rattle.std.proofs.Common.{◌≡◌, ℕ, zero, suc, ◌+◌, ◌-◌, ◌*◌, ◌/◌, ◌%◌, ◌≤◌, ◌<◌, ◌⊎◌, inl, inr, Bool, true, false, ◌&&◌, ◌==◌, nat_le, nat_lt, if◌then◌else◌, List, [], ◌∷◌, ◌++◌, length, None, Some, MatchOption, refl, sym, ◌∙◌, ap, subst, arith, IsUtf8}
use Rattle.std.proofs.lemmas.Bool.{leb-true, le-leb, and_parts, and_from, cases_lt, cond_above, cond_below, ne_eqb, eq-eqb, cases_eq, lt-ltb}
use Rattle.std.proofs.lemmas.Bool.Decides.{nat_tests}
use Rattle.std.proofs.lemmas.Grind.{common_steps}
use Rattle.std.proofs.lemmas.Str.{IsUtf8-nil, IsUtf8-append, IsUtf8-encode}
use Rattle.std.specs.Str.{encode_utf8_all, all_scalars}
use Rattle.std.specs.Str.Lossy.{second_byte_min, second_byte_max}
use Rattle.std.specs.Char.{IsScalar}
use lib.Utf8.{encode, low_scalar, scalar_cases}
use Rattle.sdb_format.specs.declared.place.Place.{Place}
use Rattle.sdb_format.specs.Letters.{at_place, between, after_first, after_later, after_byte}

-- ---- the bytes of one character
one : (c : ℕ) → c < 128 → encode c ≡ c ∷ []
unfolding encode
one c h = sym (cond_below c 128 _ _ h)

two : (c : ℕ) → 128 ≤ c → c < 2048 → encode c ≡ (192 + c / 64) ∷ (128 + c % 64) ∷ []
unfolding encode
two c l h = sym (cond_above c 128 _ _ _ l (cond_below c 2048 _ _ h))

three : (c : ℕ) → 2048 ≤ c → c < 65536 → encode c ≡ (224 + c / 4096) ∷ (128 + c / 64 % 64) ∷ (128 + c % 64) ∷ []
unfolding encode
three c l h = sym (cond_above c 128 _ _ _ (omega arith) (cond_above c 2048 _ _ _ l (cond_below c 65536 _ _ h)))

four : (c : ℕ) → 65536 ≤ c → encode c ≡ (240 + c / 262144) ∷ (128 + c / 4096 % 64) ∷ (128 + c / 64 % 64) ∷ (128 + c % 64) ∷ []
unfolding encode
four c l = sym (cond_above c 128 _ _ _ (omega arith) (cond_above c 2048 _ _ _ (omega arith) (cond_above c 65536 _ _ _ l refl)))

utf8_one : (b : ℕ) → b < 128 → IsUtf8 (b ∷ [])
utf8_one b h = subst IsUtf8 (one b h) (IsUtf8-encode b (low_scalar b (omega arith)))

utf8_two : (b y : ℕ) → 194 ≤ b → b < 224 → 128 ≤ y → y < 192 → IsUtf8 (b ∷ y ∷ [])
utf8_two b y l h low high =
    let c = (b - 192) * 64 + (y - 128) in
    let p : 192 + c / 64 ≡ b = omega arith in
    let q : 128 + c % 64 ≡ y = omega arith in
    subst IsUtf8 (two c (omega arith) (omega arith) ∙ (λ k. p k ∷ q k ∷ [])) (IsUtf8-encode c (low_scalar c (omega arith)))

abbrev of_three_bytes : ℕ → ℕ → ℕ → ℕ
of_three_bytes b y z = (b - 224) * 4096 + (y - 128) * 64 + (z - 128)

scalar_of : (c : ℕ) → (c < 55296) ⊎ (57344 ≤ c) → c < 1114112 → IsScalar c
scalar_of c (inl h) top = low_scalar c h
scalar_of c (inr l) top = sym (cond_above c 55296 _ _ _ (omega arith) (sym (and_from (nat_le 57344 c) (nat_lt c 1114112) (le-leb 57344 c l) (lt-ltb c 1114112 top))))

utf8_three : (b y z : ℕ) → 224 ≤ b → b < 240 → 128 ≤ y → y < 192 → 128 ≤ z → z < 192 → 2048 ≤ of_three_bytes b y z
    → (of_three_bytes b y z < 55296) ⊎ (57344 ≤ of_three_bytes b y z) → IsUtf8 (b ∷ y ∷ z ∷ [])
utf8_three b y z l h low high low_z high_z long scalar =
    let c = of_three_bytes b y z in
    let p : 224 + c / 4096 ≡ b = omega arith in
    let q : 128 + c / 64 % 64 ≡ y = omega arith in
    let r : 128 + c % 64 ≡ z = omega arith in
    subst IsUtf8 (three c long (omega arith) ∙ (λ k. p k ∷ q k ∷ r k ∷ [])) (IsUtf8-encode c (scalar_of c scalar (omega arith)))

utf8_four : (b y z w : ℕ) → 240 ≤ b → 128 ≤ y → y < 192 → 128 ≤ z → z < 192 → 128 ≤ w → w < 192
    → 16 ≤ (b - 240) * 64 + (y - 128) → (b - 240) * 64 + (y - 128) < 272 → IsUtf8 (b ∷ y ∷ z ∷ w ∷ [])
utf8_four b y z w l low high low_z high_z low_w high_w long top =
    let c = (b - 240) * 262144 + (y - 128) * 4096 + (z - 128) * 64 + (w - 128) in
    let p : 240 + c / 262144 ≡ b = omega arith in
    let q : 128 + c / 4096 % 64 ≡ y = omega arith in
    let e : (b - 240) * 4096 + (y - 128) * 64 + (z - 128) ≡ c / 64 = omega arith in
    let r : 128 + c / 64 % 64 ≡ z = subst (λ m. 128 + m % 64 ≡ z) e (omega arith) in
    let t : 128 + c % 64 ≡ w = omega arith in
    subst IsUtf8 (four c (omega arith) ∙ (λ k. p k ∷ q k ∷ r k ∷ t k ∷ [])) (IsUtf8-encode c (scalar_of c (inr (omega arith)) (omega arith)))

-- from that place on the bytes can stand one after the other, up to a character's end
abbrev pub Accepts : Place → List ℕ → Type 0
Accepts p [] = p.left ≡ 0
Accepts p (b ∷ bs) = MatchOption (after_byte p b) ⊥ (λ q. Accepts q bs)

pub accepts_more : (p q : Place) (b : ℕ) (bs : List ℕ) → after_byte p b ≡ Some q → Accepts q bs → Accepts p (b ∷ bs)
accepts_more p q b bs step accepted = subst (λ o. MatchOption o ⊥ (λ q. Accepts q bs)) (sym step) accepted

-- ---- a first byte
first_of_one : (b : ℕ) → b < 128 → after_first b ≡ Some between
first_of_one b h = sym (cond_below b 128 _ _ h)

first_of_two : (b : ℕ) → 194 ≤ b → b < 224 → after_first b ≡ Some (at_place (second_byte_min b) (second_byte_max b) 1)
first_of_two b l h = sym (cond_above b 128 _ _ _ (omega arith) (cond_above b 194 _ _ _ l (cond_below b 224 _ _ h)))

first_of_three : (b : ℕ) → 224 ≤ b → b < 240 → after_first b ≡ Some (at_place (second_byte_min b) (second_byte_max b) 2)
first_of_three b l h = sym (cond_above b 128 _ _ _ (omega arith) (cond_above b 194 _ _ _ (omega arith) (cond_above b 224 _ _ _ l (cond_below b 240 _ _ h))))

first_of_four : (b : ℕ) → 240 ≤ b → b < 245 → after_first b ≡ Some (at_place (second_byte_min b) (second_byte_max b) 3)
first_of_four b l h = sym (cond_above b 128 _ _ _ (omega arith) (cond_above b 194 _ _ _ (omega arith) (cond_above b 224 _ _ _ (omega arith) (cond_above b 240 _ _ _ l (cond_below b 245 _ _ h)))))

no_first : (b : ℕ) → 128 ≤ b → (b < 194) ⊎ (245 ≤ b) → after_first b ≡ None
no_first b l (inl h) = sym (cond_above b 128 _ _ _ l (cond_below b 194 _ _ h))
no_first b l (inr h) = sym (cond_above b 128 _ _ _ l (cond_above b 194 _ _ _ (omega arith) (cond_above b 224 _ _ _ (omega arith) (cond_above b 240 _ _ _ (omega arith) (cond_above b 245 _ _ _ h refl)))))

-- ---- a later byte
pub later_step : (p : Place) (b : ℕ) → 0 < p.left → p.least ≤ b → b ≤ p.most → after_byte p b ≡ Some (at_place 128 191 (p.left - 1))
later_step p b some low high =
    ap (λ t. if t then after_first b else after_later p b) (ne_eqb p.left 0 (λ e. omega arith))
    ∙ ap (λ t. if t then Some (at_place 128 191 (p.left - 1)) else None) (and_from (nat_le p.least b) (nat_le b p.most) (le-leb p.least b low) (le-leb b p.most high))

-- what stands after a place in a character
pub record Later (p : Place) (bs : List ℕ) : Type 0 where
  pub byte : ℕ
  pub rest : List ℕ
  pub bytes_are : bs ≡ byte ∷ rest
  pub low : p.least ≤ byte
  pub high : byte ≤ p.most
  pub accepted : Accepts (at_place 128 191 (p.left - 1)) rest

later : (p : Place) (bs : List ℕ) → 0 < p.left → Accepts p bs → Later p bs
later p [] some accepted = absurd (omega arith)
later p (b ∷ bs) some accepted = by (nat_le p.least b && nat_le b p.most) refl (subst (λ o. MatchOption o ⊥ (λ q. Accepts q bs)) inside accepted)
  where
    inside : after_byte p b ≡ after_later p b
    inside = ap (λ t. if t then after_first b else after_later p b) (ne_eqb p.left 0 (λ e. omega arith))

    by : (t : Bool) → (nat_le p.least b && nat_le b p.most) ≡ t → MatchOption (if t then Some (at_place 128 191 (p.left - 1)) else None) ⊥ (λ q. Accepts q bs) → Later p (b ∷ bs)
    by false e none = absurd none
    by true e goes =
        let parts = and_parts (nat_le p.least b) (nat_le b p.most) e in
        record { byte = b; rest = bs; bytes_are = refl; low = leb-true p.least b parts.0; high = leb-true b p.most parts.1; accepted = goes }

-- ---- a second byte
pub record IsSecond (b y : ℕ) : Type 0 where
  pub low : 128 ≤ y
  pub high : y < 192
  pub after_e0 : b ≡ 224 → 160 ≤ y
  pub after_ed : b ≡ 237 → y < 160
  pub after_f0 : b ≡ 240 → 144 ≤ y
  pub after_f4 : b ≡ 244 → y < 144

is_second : (b y : ℕ) → second_byte_min b ≤ y → y ≤ second_byte_max b → IsSecond b y
is_second b y low high = record {
  low = grind (arith, common_steps, nat_tests);
  high = grind (arith, common_steps, nat_tests);
  after_e0 = λ e. grind (arith, common_steps, nat_tests);
  after_ed = λ e. grind (arith, common_steps, nat_tests);
  after_f0 = λ e. grind (arith, common_steps, nat_tests);
  after_f4 = λ e. grind (arith, common_steps, nat_tests);
}

least_is : (b y : ℕ) → IsSecond b y → second_byte_min b ≤ y
least_is b y s = by (cases_eq b 224) (cases_eq b 240)
  where
    by : (b ≡ 224) ⊎ (b ≡ 224 → ⊥) → (b ≡ 240) ⊎ (b ≡ 240 → ⊥) → second_byte_min b ≤ y
    by (inl e) _ = subst (λ t. (if t then 0xA0 else (if b == 0xF0 then 0x90 else 0x80)) ≤ y) (sym (eq-eqb b 224 e)) (s.after_e0 e)
    by (inr n) (inl e) =
        subst (λ t. (if t then 0xA0 else (if b == 0xF0 then 0x90 else 0x80)) ≤ y) (sym (ne_eqb b 224 n))
        (subst (λ t. (if t then 0x90 else 0x80) ≤ y) (sym (eq-eqb b 240 e)) (s.after_f0 e))
    by (inr n) (inr m) =
        subst (λ t. (if t then 0xA0 else (if b == 0xF0 then 0x90 else 0x80)) ≤ y) (sym (ne_eqb b 224 n))
        (subst (λ t. (if t then 0x90 else 0x80) ≤ y) (sym (ne_eqb b 240 m)) s.low)

most_is : (b y : ℕ) → IsSecond b y → y ≤ second_byte_max b
most_is b y s = by (cases_eq b 237) (cases_eq b 244)
  where
    by : (b ≡ 237) ⊎ (b ≡ 237 → ⊥) → (b ≡ 244) ⊎ (b ≡ 244 → ⊥) → y ≤ second_byte_max b
    by (inl e) _ = subst (λ t. y ≤ (if t then 0x9F else (if b == 0xF4 then 0x8F else 0xBF))) (sym (eq-eqb b 237 e)) (omega (arith, s.after_ed e))
    by (inr n) (inl e) =
        subst (λ t. y ≤ (if t then 0x9F else (if b == 0xF4 then 0x8F else 0xBF))) (sym (ne_eqb b 237 n))
        (subst (λ t. y ≤ (if t then 0x8F else 0xBF)) (sym (eq-eqb b 244 e)) (omega (arith, s.after_f4 e)))
    by (inr n) (inr m) =
        subst (λ t. y ≤ (if t then 0x9F else (if b == 0xF4 then 0x8F else 0xBF))) (sym (ne_eqb b 237 n))
        (subst (λ t. y ≤ (if t then 0x8F else 0xBF)) (sym (ne_eqb b 244 m)) (omega (arith, s.high)))

-- ---- the bytes of characters can stand so
accepts_later : (lo hi left b : ℕ) (bs : List ℕ) → 0 < left → lo ≤ b → b ≤ hi → Accepts (at_place 128 191 (left - 1)) bs → Accepts (at_place lo hi left) (b ∷ bs)
accepts_later lo hi left b bs some low high accepted = accepts_more (at_place lo hi left) _ b bs (later_step (at_place lo hi left) b some low high) accepted

accepts_char : (c : ℕ) (rest : List ℕ) → (c < 55296) ⊎ ((57344 ≤ c) × (c < 1114112)) → Accepts between rest → Accepts between (encode c ++ rest)
accepts_char c rest scalar accepted = by (cases_lt c 128) (cases_lt c 2048) (cases_lt c 65536)
  where
    below : (c < 55296) ⊎ ((57344 ≤ c) × (c < 1114112)) → c < 1114112
    below (inl h) = omega arith
    below (inr h) = h.1

    no_surrogate : (c < 55296) ⊎ ((57344 ≤ c) × (c < 1114112)) → 55296 ≤ c → 57344 ≤ c
    no_surrogate (inl h) l = absurd (omega arith)
    no_surrogate (inr h) l = h.0

    spelled : (bytes : List ℕ) → encode c ≡ bytes → Accepts between (bytes ++ rest) → Accepts between (encode c ++ rest)
    spelled bytes e fine = subst (λ l. Accepts between (l ++ rest)) (sym e) fine

    by : (c < 128) ⊎ (128 ≤ c) → (c < 2048) ⊎ (2048 ≤ c) → (c < 65536) ⊎ (65536 ≤ c) → Accepts between (encode c ++ rest)
    by (inl h) _ _ = spelled _ (one c h) (accepts_more between between c rest (first_of_one c h) accepted)
    by (inr l) (inl h) _ =
        let a = 192 + c / 64 in
        let b = 128 + c % 64 in
        let s : IsSecond a b = record { low = omega arith; high = omega arith; after_e0 = λ e. absurd (omega arith); after_ed = λ e. absurd (omega arith); after_f0 = λ e. absurd (omega arith); after_f4 = λ e. absurd (omega arith) } in
        spelled _ (two c l h)
        (accepts_more between _ a (b ∷ rest) (first_of_two a (omega arith) (omega arith))
        (accepts_later (second_byte_min a) (second_byte_max a) 1 b rest (omega arith) (least_is a b s) (most_is a b s) accepted))
    by (inr l) (inr l2) (inl h) =
        let a = 224 + c / 4096 in
        let b = 128 + c / 64 % 64 in
        let d = 128 + c % 64 in
        let gap : 55296 ≤ c → 57344 ≤ c = no_surrogate scalar in
        let s : IsSecond a b = record { low = omega arith; high = omega arith; after_e0 = λ e. omega arith; after_ed = λ e. omega arith; after_f0 = λ e. absurd (omega arith); after_f4 = λ e. absurd (omega arith) } in
        spelled _ (three c l2 h)
        (accepts_more between _ a (b ∷ d ∷ rest) (first_of_three a (omega arith) (omega arith))
        (accepts_later (second_byte_min a) (second_byte_max a) 2 b (d ∷ rest) (omega arith) (least_is a b s) (most_is a b s)
        (accepts_later 128 191 1 d rest (omega arith) (omega arith) (omega arith) accepted)))
    by (inr l) (inr l2) (inr l3) =
        let top : c < 1114112 = below scalar in
        let a = 240 + c / 262144 in
        let b = 128 + c / 4096 % 64 in
        let d = 128 + c / 64 % 64 in
        let x = 128 + c % 64 in
        let s : IsSecond a b = record { low = omega arith; high = omega arith; after_e0 = λ e. absurd (omega arith); after_ed = λ e. absurd (omega arith); after_f0 = λ e. omega arith; after_f4 = λ e. omega arith } in
        spelled _ (four c l3)
        (accepts_more between _ a (b ∷ d ∷ x ∷ rest) (first_of_four a (omega arith) (omega arith))
        (accepts_later (second_byte_min a) (second_byte_max a) 3 b (d ∷ x ∷ rest) (omega arith) (least_is a b s) (most_is a b s)
        (accepts_later 128 191 2 d (x ∷ rest) (omega arith) (omega arith) (omega arith)
        (accepts_later 128 191 1 x rest (omega arith) (omega arith) (omega arith) accepted))))

accepts_chars : (cs : List ℕ) → all_scalars cs ≡ true → Accepts between (encode_utf8_all cs)
accepts_chars [] e = refl
accepts_chars (c ∷ cs) e =
    let parts = and_parts _ _ e in
    accepts_char c (encode_utf8_all cs) (scalar_cases c parts.0) (accepts_chars cs parts.1)

pub accepts_utf8 : (bs : List ℕ) → IsUtf8 bs → Accepts between bs
accepts_utf8 bs utf8 = subst (Accepts between) utf8.1.1 (accepts_chars utf8.0 utf8.1.0)

-- ---- bytes that can stand so are characters
long : (b y z : ℕ) → 224 ≤ b → IsSecond b y → 128 ≤ z → 2048 ≤ of_three_bytes b y z
long b y z l s low = by (cases_lt b 225)
  where
    by : (b < 225) ⊎ (225 ≤ b) → 2048 ≤ of_three_bytes b y z
    by (inl h) = let e : b ≡ 224 = omega arith in omega (arith, s.after_e0 e)
    by (inr m) = omega arith

gap : (b y z : ℕ) → 224 ≤ b → b < 240 → IsSecond b y → 128 ≤ z → z ≤ 191 → (of_three_bytes b y z < 55296) ⊎ (57344 ≤ of_three_bytes b y z)
gap b y z l h s low high = by (cases_lt b 237) (cases_lt b 238)
  where
    by : (b < 237) ⊎ (237 ≤ b) → (b < 238) ⊎ (238 ≤ b) → (of_three_bytes b y z < 55296) ⊎ (57344 ≤ of_three_bytes b y z)
    by (inl below) _ = inl (omega (arith, s.high))
    by (inr m) (inl below) = let e : b ≡ 237 = omega arith in inl (omega (arith, s.after_ed e))
    by (inr m) (inr above) = inr (omega (arith, s.low))

high_of_four : (b y : ℕ) → 240 ≤ b → b < 245 → IsSecond b y → (16 ≤ (b - 240) * 64 + (y - 128)) × ((b - 240) * 64 + (y - 128) < 272)
high_of_four b y l h s = (by_low (cases_lt b 241), by_high (cases_lt b 244))
  where
    by_low : (b < 241) ⊎ (241 ≤ b) → 16 ≤ (b - 240) * 64 + (y - 128)
    by_low (inl below) = let e : b ≡ 240 = omega arith in omega (arith, s.after_f0 e)
    by_low (inr above) = omega arith

    by_high : (b < 244) ⊎ (244 ≤ b) → (b - 240) * 64 + (y - 128) < 272
    by_high (inl below) = omega (arith, s.high)
    by_high (inr above) = let e : b ≡ 244 = omega arith in omega (arith, s.after_f4 e)

utf8_within : (n : ℕ) (bs : List ℕ) → length bs ≤ n → Accepts between bs → IsUtf8 bs
utf8_within n [] short accepted = IsUtf8-nil
utf8_within zero (b ∷ bs) short accepted = absurd (omega arith)
utf8_within (suc n) (b ∷ bs) short accepted = by (λ rest small goes_on. utf8_within n rest small goes_on) (cases_lt b 128) (cases_lt b 194) (cases_lt b 224) (cases_lt b 240) (cases_lt b 245)
  where
    goes : (p : Place) → after_first b ≡ Some p → Accepts p bs
    goes p e = subst (λ o. MatchOption o ⊥ (λ q. Accepts q bs)) e accepted

    stops : {X : Type 0} → after_first b ≡ None → X
    stops e = absurd (subst (λ o. MatchOption o ⊥ (λ q. Accepts q bs)) e accepted)

    by : ((rest : List ℕ) → length rest ≤ n → Accepts between rest → IsUtf8 rest) → (b < 128) ⊎ (128 ≤ b) → (b < 194) ⊎ (194 ≤ b) → (b < 224) ⊎ (224 ≤ b) → (b < 240) ⊎ (240 ≤ b) → (b < 245) ⊎ (245 ≤ b) → IsUtf8 (b ∷ bs)
    by later_on (inl h) _ _ _ _ = IsUtf8-append (b ∷ []) bs (utf8_one b h) (later_on bs (omega arith) (goes between (first_of_one b h)))
    by later_on (inr l) (inl h) _ _ _ = stops (no_first b l (inl h))
    by later_on (inr l) (inr l2) (inl h) _ _ =
        let y = later (at_place (second_byte_min b) (second_byte_max b) 1) bs (omega arith) (goes _ (first_of_two b l2 h)) in
        let s = is_second b y.byte y.low y.high in
        subst (λ l. IsUtf8 (b ∷ l)) (sym y.bytes_are)
        (IsUtf8-append (b ∷ y.byte ∷ []) y.rest (utf8_two b y.byte l2 h s.low s.high) (later_on y.rest (omega (arith, ap length y.bytes_are)) y.accepted))
    by later_on (inr l) (inr l2) (inr l3) (inl h) _ =
        let y = later (at_place (second_byte_min b) (second_byte_max b) 2) bs (omega arith) (goes _ (first_of_three b l3 h)) in
        let z = later (at_place 128 191 1) y.rest (omega arith) y.accepted in
        let s = is_second b y.byte y.low y.high in
        subst (λ l. IsUtf8 (b ∷ l)) (sym (y.bytes_are ∙ ap (λ l. y.byte ∷ l) z.bytes_are))
        (IsUtf8-append (b ∷ y.byte ∷ z.byte ∷ []) z.rest
        (utf8_three b y.byte z.byte l3 h s.low s.high z.low (omega (arith, z.high)) (long b y.byte z.byte l3 s z.low) (gap b y.byte z.byte l3 h s z.low z.high))
        (later_on z.rest (omega (arith, ap length y.bytes_are, ap length z.bytes_are)) z.accepted))
    by later_on (inr l) (inr l2) (inr l3) (inr l4) (inl h) =
        let y = later (at_place (second_byte_min b) (second_byte_max b) 3) bs (omega arith) (goes _ (first_of_four b l4 h)) in
        let z = later (at_place 128 191 2) y.rest (omega arith) y.accepted in
        let w = later (at_place 128 191 1) z.rest (omega arith) z.accepted in
        let s = is_second b y.byte y.low y.high in
        subst (λ l. IsUtf8 (b ∷ l)) (sym (y.bytes_are ∙ ap (λ l. y.byte ∷ l) (z.bytes_are ∙ ap (λ l. z.byte ∷ l) w.bytes_are)))
        (IsUtf8-append (b ∷ y.byte ∷ z.byte ∷ w.byte ∷ []) w.rest
        (utf8_four b y.byte z.byte w.byte l4 s.low s.high z.low (omega (arith, z.high)) w.low (omega (arith, w.high)) (high_of_four b y.byte l4 h s).0 (high_of_four b y.byte l4 h s).1)
        (later_on w.rest (omega (arith, ap length y.bytes_are, ap length z.bytes_are, ap length w.bytes_are)) w.accepted))
    by later_on (inr l) (inr l2) (inr l3) (inr l4) (inr l5) = stops (no_first b l (inr l5))

pub utf8_accepted : (bs : List ℕ) → Accepts between bs → IsUtf8 bs
utf8_accepted bs accepted = utf8_within (length bs) bs (omega arith) accepted

pub second_range : (b : ℕ) → second_byte_min b ≤ second_byte_max b
second_range b = grind (arith, common_steps, nat_tests)
