-- Numbers within limits are formats.
use Rattle.std.proofs.Common.{◌≡◌, ◌⊎◌, inl, inr, ℕ, ◌+◌, ◌*◌, ◌/◌, ◌%◌, ◌^◌, ◌≤◌, ◌<◌, Bool, true, false, ◌&&◌, nat_le, if◌then◌else◌, List, [], ◌∷◌, ◌++◌, Ok, Err, refl, ◌∙◌, ap, arith}
use Rattle.std.proofs.lemmas.Bool.{leb-true, le-leb, and_parts, and_from, both_ways, cases_lt}
use Rattle.sdb_format.specs.declared.fault.FormatFault.TheVariants.{Short, Bad}
use Rattle.sdb_format.specs.Format.{Begins, Judged, Format}
use Rattle.sdb_format.specs.Numbers.{IsWithin, byte_where, byte_in, u16_in, be16, u32_parts, u32_at, be32}
use Rattle.sdb_format.proofs.FormatLaws.{then_format, seen_format, same_format}

abbrev byte_text : ℕ → List ℕ
byte_text b = b ∷ []

module _ (p : ℕ → Bool) where
  abbrev Passes : ℕ → Type 0
  Passes b = p b ≡ true

  by_test : (b : ℕ) (rest : List ℕ) (t : Bool) → p b ≡ t → Judged Passes byte_text (byte_where p) (b ∷ rest) (if t then Ok (b, rest) else Err Bad)
  by_test b rest true test = record { fits = test; bytes_are = refl }
  by_test b rest false test = λ more. ap (λ t. if t then Ok (b, rest ++ more) else Err Bad) test

  pub byte_where_format : (b : ℕ) → p b ≡ true → Format (λ b. p b ≡ true) (λ b. b ∷ []) (byte_where p)
  byte_where_format b passes = record {
    judged = judged;
    again = λ c rest test. ap (λ t. if t then Ok (c, rest) else Err Bad) test;
    some = (b, passes);
  }
    where
      judged : (bytes : List ℕ) → Judged Passes byte_text (byte_where p) bytes (byte_where p bytes)
      judged [] = record { value = b; fits = passes; more = b ∷ []; some = λ e. cc; text_is = refl }
      judged (c ∷ rest) = by_test c rest (p c) refl

module _ (least most : ℕ) where
  within_byte : (b : ℕ) → IsWithin least most b → (nat_le least b && nat_le b most) ≡ true
  within_byte b within = and_from (nat_le least b) (nat_le b most) (le-leb least b within.low) (le-leb b most within.high)

  is_within : (b : ℕ) → (nat_le least b && nat_le b most) ≡ true → IsWithin least most b
  is_within b test = let parts = and_parts (nat_le least b) (nat_le b most) test in record { low = leb-true least b parts.0; high = leb-true b most parts.1 }

  pub byte_format : least ≤ most → Format (IsWithin least most) (λ b. b ∷ []) (byte_in least most)
  byte_format order =
      same_format (λ b. (nat_le least b && nat_le b most) ≡ true) (IsWithin least most) byte_text (byte_in least most) is_within within_byte
      (byte_where_format (λ b. nat_le least b && nat_le b most) least (within_byte least (record { low = omega arith; high = order })))

module _ (least most : ℕ) (order : least ≤ most) (small : most < 2 ^ 16) where
  abbrev Within : ℕ → Type 0
  Within = IsWithin least most

  abbrev in_reach : ℕ → Bool
  in_reach a = nat_le (least / 256) a && nat_le a (most / 256)

  abbrev is_there : ℕ → ℕ → Bool
  is_there a b = nat_le b 255 && (nat_le least (a * 256 + b) && nat_le (a * 256 + b) most)

  begun_at : (a n : ℕ) → Within n → n / 256 ≡ a → Begins Within be16 (a ∷ [])
  begun_at a n within front = record { value = n; fits = within; more = n % 256 ∷ []; some = λ e. cc; text_is = ap (λ q. q ∷ n % 256 ∷ []) front }

  begun : (a : ℕ) → in_reach a ≡ true → Begins Within be16 (a ∷ [])
  begun a test = by (cases_lt least (a * 256))
    where
      parts : (least / 256 ≤ a) × (a ≤ most / 256)
      parts = let both = and_parts (nat_le (least / 256) a) (nat_le a (most / 256)) test in (leb-true (least / 256) a both.0, leb-true a (most / 256) both.1)

      by : (least < a * 256) ⊎ (a * 256 ≤ least) → Begins Within be16 (a ∷ [])
      by (inl below) = begun_at a (a * 256) (record { low = omega arith; high = omega (arith, parts.1) }) (omega arith)
      by (inr above) = begun_at a least (record { low = omega arith; high = order }) (omega (arith, parts.0))

  there_parts : (a b : ℕ) → is_there a b ≡ true → (b ≤ 255) × Within (a * 256 + b)
  there_parts a b test =
      let parts = and_parts (nat_le b 255) (nat_le least (a * 256 + b) && nat_le (a * 256 + b) most) test in
      (leb-true b 255 parts.0, is_within least most (a * 256 + b) parts.1)

  -- a first byte out of reach isn't mended by a second
  not_there : (a b : ℕ) → in_reach a ≡ false → is_there a b ≡ false
  not_there a b far = by (is_there a b) refl
    where
      by : (t : Bool) → is_there a b ≡ t → is_there a b ≡ false
      by false e = e
      by true e =
          let parts = there_parts a b e in
          let low : least / 256 ≤ a = omega (arith, parts.0, parts.1.low) in
          let high : a ≤ most / 256 = omega (arith, parts.0, parts.1.high) in
          absurd (both_ways (in_reach a) far (and_from (nat_le (least / 256) a) (nat_le a (most / 256)) (le-leb (least / 256) a low) (le-leb a (most / 256) high)))

  judged_one : (a : ℕ) (t : Bool) → in_reach a ≡ t → Judged Within be16 (u16_in least most) (a ∷ []) (if t then Err Short else Err Bad)
  judged_one a true test = begun a test
  judged_one a false test = bad
    where
      bad : (more : List ℕ) → u16_in least most (a ∷ more) ≡ Err Bad
      bad [] = ap (λ t. if t then Err Short else Err Bad) test
      bad (b ∷ rest) = ap (λ t. if t then Ok (a * 256 + b, rest) else Err Bad) (not_there a b test)

  judged_two : (a b : ℕ) (rest : List ℕ) (t : Bool) → is_there a b ≡ t
      → Judged Within be16 (u16_in least most) (a ∷ b ∷ rest) (if t then Ok (a * 256 + b, rest) else Err Bad)
  judged_two a b rest true test =
      let parts = there_parts a b test in
      let high : a ≡ (a * 256 + b) / 256 = omega (arith, parts.0) in
      let low : b ≡ (a * 256 + b) % 256 = omega (arith, parts.0) in
      record { fits = parts.1; bytes_are = λ i. high i ∷ low i ∷ rest }
  judged_two a b rest false test = λ more. ap (λ t. if t then Ok (a * 256 + b, rest ++ more) else Err Bad) test

  u16_judged : (bytes : List ℕ) → Judged Within be16 (u16_in least most) bytes (u16_in least most bytes)
  u16_judged [] = record { value = least; fits = record { low = omega arith; high = order }; more = be16 least; some = λ e. cc; text_is = refl }
  u16_judged (a ∷ []) = judged_one a (in_reach a) refl
  u16_judged (a ∷ b ∷ rest) = judged_two a b rest (is_there a b) refl

  u16_again : (n : ℕ) (rest : List ℕ) → Within n → u16_in least most (be16 n ++ rest) ≡ Ok (n, rest)
  u16_again n rest within =
      let same : n / 256 * 256 + n % 256 ≡ n = omega arith in
      let small_low : n % 256 ≤ 255 = omega arith in
      let test : is_there (n / 256) (n % 256) ≡ true =
      and_from (nat_le (n % 256) 255) _ (le-leb (n % 256) 255 small_low)
      (within_byte least most (n / 256 * 256 + n % 256) (record { low = omega (arith, within.low); high = omega (arith, within.high) })) in
      ap (λ t. if t then Ok (n / 256 * 256 + n % 256, rest) else Err Bad) test ∙ ap (λ m. Ok (m, rest)) same

  pub u16_format : Format (IsWithin least most) be16 (u16_in least most)
  u16_format = record { judged = u16_judged; again = u16_again; some = (least, record { low = omega arith; high = order }) }

abbrev pub IsU32 : ℕ → Type 0
IsU32 n = n < 2 ^ 32

pub u32_format : Format IsU32 be32 u32_at
u32_format =
    let half = u16_format 0 65535 (omega arith) (omega arith) in
    seen_format _ _ _ IsU32 be32 u32_parts
    (then_format (IsWithin 0 65535) be16 (u16_in 0 65535) (λ high. IsWithin 0 65535) (λ high. be16) (λ high. u16_in 0 65535) half (λ high fits. half))
    forth back
  where
    forth : (x : ℕ × ℕ) → IsWithin 0 65535 x.0 × IsWithin 0 65535 x.1 → IsU32 (u32_parts x) × (be32 (u32_parts x) ≡ be16 x.0 ++ be16 x.1)
    forth x fits =
        let high : (x.0 * 65536 + x.1) / 65536 ≡ x.0 = omega (arith, fits.0.high, fits.1.high) in
        let low : (x.0 * 65536 + x.1) % 65536 ≡ x.1 = omega (arith, fits.0.high, fits.1.high) in
        (omega (arith, fits.0.high, fits.1.high), λ i. be16 (high i) ++ be16 (low i))

    back : (n : ℕ) → IsU32 n → (x : ℕ × ℕ) × (IsWithin 0 65535 x.0 × IsWithin 0 65535 x.1) × (u32_parts x ≡ n)
    back n small = ((n / 65536, n % 65536), (record { low = omega arith; high = omega arith }, record { low = omega arith; high = omega arith }), omega arith)
