-- Bytes that each pass a test are a format, and are judged by the test of them all.
use Rattle.std.proofs.Common.{◌≡◌, ℕ, zero, suc, ◌≤◌, ◌<◌, ◌⊎◌, inl, inr, Bool, true, false, ◌&&◌, if◌then◌else◌, List, [], ◌∷◌, length, All, take, drop, Ok, Err, refl, sym, ◌∙◌, ap, arith}
use Rattle.std.proofs.lemmas.Bool.{and_parts, and_from, cases_Bool, true≢false}
use Rattle.std.specs.List.{flat_map, list_all}
use Rattle.sdb_format.specs.declared.fault.FormatFault.TheVariants.{Short, Bad}
use Rattle.sdb_format.specs.Readers.{mapped, go_on, in_front, AreTimes}
use Rattle.sdb_format.specs.Format.{Format}
use Rattle.sdb_format.specs.Numbers.{byte_where}
use Rattle.sdb_format.specs.Letters.{passing_at, ArePassing}
use Rattle.sdb_format.proofs.FormatLaws.{times_format, same_format, retold_format, All-first, All-later}
use Rattle.sdb_format.proofs.NumberLaws.{byte_where_format}

module _ (p : ℕ → Bool) where
  pass_each : (bytes : List ℕ) → All (λ b. p b ≡ true) bytes → list_all p bytes ≡ true
  pass_each [] each = refl
  pass_each (b ∷ bytes) each = and_from (p b) (list_all p bytes) (All-first (λ b. p b ≡ true) b bytes each) (pass_each bytes (All-later (λ b. p b ≡ true) b bytes each))

  each_passes : (bytes : List ℕ) → list_all p bytes ≡ true → All (λ b. p b ≡ true) bytes
  each_passes [] pass k d below = absurd (omega arith)
  each_passes (b ∷ bytes) pass zero d below = (and_parts (p b) (list_all p bytes) pass).0
  each_passes (b ∷ bytes) pass (suc k) d below = each_passes bytes (and_parts (p b) (list_all p bytes) pass).1 k d (omega arith)

  singles : (bytes : List ℕ) → bytes ≡ flat_map (λ b. b ∷ []) bytes
  singles [] = refl
  singles (b ∷ bytes) = ap (λ l. b ∷ l) (singles bytes)

  pub passing_format : (b : ℕ) → p b ≡ true → (n : ℕ) → Format (ArePassing p n) (λ bytes. bytes) (passing_at p n)
  passing_format b passes n =
      retold_format (ArePassing p n) (flat_map (λ b. b ∷ [])) (λ bytes. bytes) (passing_at p n) singles
      (same_format (AreTimes (λ b. p b ≡ true) n) (ArePassing p n) (flat_map (λ b. b ∷ [])) (passing_at p n)
      (λ bytes are. record { size = are.size; pass = pass_each bytes are.each })
      (λ bytes are. record { size = are.size; each = each_passes bytes are.pass })
      (times_format (λ b. p b ≡ true) (λ b. b ∷ []) (byte_where p) (byte_where_format p b passes) n))

  -- the reading after a byte that passes
  passed : (n b : ℕ) (bytes : List ℕ) → p b ≡ true → passing_at p (suc n) (b ∷ bytes) ≡ mapped in_front (mapped (λ y. (b, y)) (passing_at p n bytes))
  passed n b bytes test = ap (λ t. mapped in_front (go_on (λ x. passing_at p n) (if t then Ok (b, bytes) else Err Bad))) test

  pub passing_there : (n : ℕ) (bytes : List ℕ) → list_all p (take n bytes) ≡ true → n ≤ length bytes → passing_at p n bytes ≡ Ok (take n bytes, drop n bytes)
  passing_there zero bytes pass there = refl
  passing_there (suc n) [] pass there = absurd (omega arith)
  passing_there (suc n) (b ∷ bytes) pass there =
      let parts = and_parts (p b) (list_all p (take n bytes)) pass in
      passed n b bytes parts.0 ∙ ap (λ r. mapped in_front (mapped (λ y. (b, y)) r)) (passing_there n bytes parts.1 (omega arith))

  pub passing_short : (n : ℕ) (bytes : List ℕ) → list_all p bytes ≡ true → length bytes < n → passing_at p n bytes ≡ Err Short
  passing_short zero bytes pass short = absurd (omega arith)
  passing_short (suc n) [] pass short = refl
  passing_short (suc n) (b ∷ bytes) pass short =
      let parts = and_parts (p b) (list_all p bytes) pass in
      passed n b bytes parts.0 ∙ ap (λ r. mapped in_front (mapped (λ y. (b, y)) r)) (passing_short n bytes parts.1 (omega arith))

  pub passing_bad : (n : ℕ) (bytes : List ℕ) → list_all p (take n bytes) ≡ false → passing_at p n bytes ≡ Err Bad
  passing_bad zero bytes fail = absurd (true≢false fail)
  passing_bad (suc n) [] fail = absurd (true≢false fail)
  passing_bad (suc n) (b ∷ bytes) fail = by (λ later. passing_bad n bytes later) (cases_Bool (p b))
    where
      by : (list_all p (take n bytes) ≡ false → passing_at p n bytes ≡ Err Bad) → (p b ≡ true) ⊎ (p b ≡ false) → passing_at p (suc n) (b ∷ bytes) ≡ Err Bad
      by later (inl test) =
          let rest : list_all p (take n bytes) ≡ false = ap (λ t. t && list_all p (take n bytes)) (sym test) ∙ fail in
          passed n b bytes test ∙ ap (λ r. mapped in_front (mapped (λ y. (b, y)) r)) (later rest)
      by later (inr test) = ap (λ t. mapped in_front (go_on (λ x. passing_at p n) (if t then Ok (b, bytes) else Err Bad))) test
