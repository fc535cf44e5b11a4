-- What holds of the readers of numbers and texts.
use Rattle.std.specs.Prelude.{ℕ, ◌≤◌, ◌<◌, ◌^◌, [], ◌∷◌}
use Rattle.sdb_format.specs.Format.{Format}
use Rattle.sdb_format.specs.Numbers.{IsWithin, byte_in, u16_in, be16, u32_at, be32}
use Rattle.sdb_format.specs.Letters.{letters_at, AreLetters, text_in, text_bytes, IsTextWithin}

-- bytes, and numbers of two bytes, within limits, and numbers of four bytes
pub record NumbersAreFormats : Type 0 where
  pub bytes : (least most : ℕ) → least ≤ most → Format (IsWithin least most) (λ b. b ∷ []) (byte_in least most)
  pub twos : (least most : ℕ) → least ≤ most → most < 2 ^ 16 → Format (IsWithin least most) be16 (u16_in least most)
  pub fours : Format (λ n. n < 2 ^ 32) be32 u32_at

-- the texts of n bytes in UTF-8
abbrev pub LettersAreAFormat : Type 0
LettersAreAFormat = (n : ℕ) → Format (AreLetters n) (λ bytes. bytes) (letters_at n)

-- the texts behind their length, within limits on it
abbrev pub TextsAreAFormat : Type 0
TextsAreAFormat = (least most : ℕ) → least ≤ most → most < 2 ^ 16 → Format (IsTextWithin least most) text_bytes (text_in least most)
