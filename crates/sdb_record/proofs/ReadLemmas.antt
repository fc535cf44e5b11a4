-- How the readers of changes go on.
use Rattle.std.proofs.Common.{◌≡◌, ℕ, zero, suc, ◌<◌, true, List, [], ◌∷◌, ◌++◌, Ok, Err, refl, ◌∙◌, ap, append-nil, arith, IsUtf8}
use Rattle.std.specs.List.{list_all}
use Rattle.std.specs.Str.{IsAscii}
use Rattle.std.proofs.lemmas.Bool.{and_parts}
use Rattle.std.proofs.lemmas.Bool.Decides.{nat_tests}
use Rattle.std.proofs.lemmas.Grind.{common_steps}
use Rattle.std.proofs.lemmas.Str.{IsUtf8-from_ascii}
use Rattle.sdb_base.specs.Names.{is_domain_char}
use Rattle.sdb_format.specs.Readers.{Reading, Reader, mapped, go_on, then_at, seen_at, times_at, second}

-- the second of two, once the first is read
pub second_is : {A B : Type 0} (first : Reader A) (next : A → Reader B) (bytes : List ℕ) (x : A) (rest : List ℕ) → first bytes ≡ Ok (x, rest)
    → seen_at second (then_at first next) bytes ≡ next x rest
second_is {A} {B} first next bytes x rest done = ap (λ r. mapped second (go_on next r)) done ∙ same (next x rest)
  where
    same : (r : Reading B) → mapped second (mapped (λ y. (x, y)) r) ≡ r
    same (Ok y) = refl
    same (Err fault) = refl

-- none are left to be read
pub times_done : {A : Type 0} (read : Reader A) (n : ℕ) (xs : List A) (bytes : List ℕ) → n ≡ 0 → mapped (λ ys. xs ++ ys) (times_at n read bytes) ≡ Ok (xs, bytes)
times_done read n xs bytes none = ap (λ k. mapped (λ ys. xs ++ ys) (times_at k read bytes)) none ∙ ap (λ ys. Ok (ys, bytes)) (append-nil xs)

-- none were read before
pub times_begin : {A : Type 0} (r : Reading (List A)) → r ≡ mapped (λ ys. [] ++ ys) r
times_begin (Ok x) = refl
times_begin (Err fault) = refl

-- ---- letters of a domain's name
letter_below : (b : ℕ) → is_domain_char b ≡ true → b < 128
letter_below b letter = grind (arith, common_steps, nat_tests)

letters_below : (bytes : List ℕ) → list_all is_domain_char bytes ≡ true → IsAscii bytes
letters_below [] letters i = omega arith
letters_below (b ∷ bytes) letters zero = letter_below b (and_parts (is_domain_char b) (list_all is_domain_char bytes) letters).0
letters_below (b ∷ bytes) letters (suc i) = letters_below bytes (and_parts (is_domain_char b) (list_all is_domain_char bytes) letters).1 i

pub letters_utf8 : (bytes : List ℕ) → list_all is_domain_char bytes ≡ true → IsUtf8 bytes
letters_utf8 bytes letters = IsUtf8-from_ascii bytes (letters_below bytes letters)
