-- The first letter of a pattern.
use Rattle.std.proofs.Common.{◌≡◌, ℕ, Bool, true, false, List, [], ◌∷◌, drop, slice_index, if◌then◌else◌, refl, ap}
use Rattle.std.proofs.lemmas.Bool.{false≢true}
use Rattle.sdb_parse.specs.declared.letters.Letter.{Letter}
use Rattle.sdb_parse.specs.declared.letters.Letter.TheVariants as at
use Rattle.sdb_parse.specs.Patterns.{is_escaped, letters, unescaped}

pub escaped_letter : (b : ℕ) (rest : List ℕ) → is_escaped b rest ≡ true → letters (b ∷ rest) ≡ at.Byte (slice_index rest 0) ∷ letters (drop 1 rest)
unfolding letters
escaped_letter b [] h = absurd (false≢true h)
escaped_letter b (c ∷ rest) h = ap (λ x. if x then at.Byte c ∷ letters rest else unescaped b ∷ letters (c ∷ rest)) h

pub plain_letter : (b : ℕ) (rest : List ℕ) → is_escaped b rest ≡ false → letters (b ∷ rest) ≡ unescaped b ∷ letters rest
unfolding letters
plain_letter b [] h = refl
plain_letter b (c ∷ rest) h = ap (λ x. if x then at.Byte c ∷ letters rest else unescaped b ∷ letters (c ∷ rest)) h

pub ruleset letter_laws = (escaped_letter, plain_letter)
