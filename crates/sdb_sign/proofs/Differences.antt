-- Differences of two texts, gathered byte by byte.
use Rattle.std.proofs.Common.{◌≡◌, ℕ, ◌+◌, ◌%◌, ◌<◌, ◌≤◌, List, length, get_or, bit_or, bit_xor, nat_eq, sym, ap, ◌∙◌, arith, below_more}
use Rattle.std.proofs.lemmas.Nat.{le_or_l, le_or_r}
use Rattle.std.proofs.lemmas.Nat.Bits.{bit_at-lt, bit_at-zero, bit_at_xor, same_from_bits}
use Rattle.std.specs.Int.{bit_at}
use Rattle.std.specs.Int.Bits.{or_zero_l}
use Rattle.std.proofs.lemmas.Grind.{same_number_lists}
use Rattle.std.specs.Str.{bytes_eq}
use Rattle.std.proofs.lemmas.Slice.Eq.{bytes_eq-Decides}
use Rattle.std.proofs.lemmas.Bool.Decides.{Decides-eqb, same_from_decides}

-- no difference was found where the lengths agree and so many bytes do, and equal texts have none
pub record AreSameTo (place : ℕ) (a b : List ℕ) (differences : ℕ) : Type 0 where
  pub lengths : differences ≡ 0 → length a ≡ length b
  pub bytes : differences ≡ 0 → (k : ℕ) → k < place → get_or a k 0 ≡ get_or b k 0
  pub equal : a ≡ b → differences ≡ 0

pub same_from_xor : (x y : ℕ) → bit_xor x y ≡ 0 → x ≡ y
same_from_xor x y none =
    same_from_bits x y (λ i.
    let sum : (bit_at x i + bit_at y i) % 2 ≡ 0 = sym (bit_at_xor x y i) ∙ ap (λ n. bit_at n i) none ∙ bit_at-zero i in
    omega (arith, bit_at-lt x i, bit_at-lt y i, sum))

pub xor_same : (x : ℕ) → bit_xor x x ≡ 0
xor_same x =
    same_from_bits (bit_xor x x) 0 (λ i.
    let sum = bit_at_xor x x i in
    omega (arith, sum, bit_at-zero i))

equal_more : (differences more : ℕ) → differences ≡ 0 → more ≡ 0 → bit_or differences more ≡ 0
equal_more differences more none same = ap (λ n. bit_or n more) none ∙ or_zero_l more ∙ same

pub same_more : (place : ℕ) (a b : List ℕ) (differences : ℕ) → AreSameTo place a b differences → AreSameTo (place + 1) a b (bit_or differences (bit_xor (get_or a place 0) (get_or b place 0)))
same_more place a b differences so_far =
    let x = get_or a place 0 in
    let y = get_or b place 0 in
    record {
      lengths = λ none. so_far.lengths (omega (arith, none, le_or_l differences (bit_xor x y)));
      bytes = λ none.
          below_more _ place (so_far.bytes (omega (arith, none, le_or_l differences (bit_xor x y)))) (same_from_xor x y (omega (arith, none, le_or_r differences (bit_xor x y))));
      equal = λ same. equal_more differences (bit_xor x y) (so_far.equal same) (ap (λ n. bit_xor x n) (ap (λ (l : List ℕ). get_or l place 0) (sym same)) ∙ xor_same x);
    }

-- with no difference at any place of either, the texts are equal
pub same_all : (place : ℕ) (a b : List ℕ) (differences : ℕ) → AreSameTo place a b differences → length a ≤ place → nat_eq differences 0 ≡ bytes_eq a b
same_all place a b differences found whole =
    same_from_decides _ _ (Decides-eqb differences 0) (λ is. found.equal ((bytes_eq-Decides a b).0 is), λ none. (bytes_eq-Decides a b).1 (same_number_lists a b (found.lengths none) (λ k within. found.bytes none k (omega arith))))
