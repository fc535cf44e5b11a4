-- What stands behind the version and the digest.
use Rattle.std.proofs.Common.{◌≡◌, ◌≢◌, Bor, ℕ, ◌+◌, true, false, List, ◌∷◌, ◌++◌, length, take, drop, Option, None, Some, MatchOption, IfSome, IfNone, ◌==◌, sym, ◌∙◌, ap}
use Rattle.std.specs.Cmp.Lexicographic.{pointwise}
use Rattle.std.proofs.lemmas.Bool.Decides.{Decides-eqb}
use Rattle.std.proofs.lemmas.Slice.Eq.{strip_prefix_is}

tail_same : (x : ℕ) (xs ys : List ℕ) → x ∷ xs ≡ x ∷ ys → xs ≡ ys
tail_same x xs ys e = cc e

-- what `strip_prefix` answers of the bytes behind the version
abbrev pub Stripped : List ℕ → List ℕ → Option (Bor (List ℕ)) → Type 0
Stripped after digest result = MatchOption result (pointwise (λ a b. a == b) (take (length digest) after) digest ≡ false)
    (λ x. (pointwise (λ a b. a == b) (take (length digest) after) digest ≡ true) × (x.now ≡ drop (length digest) after) × (length x.now + length digest ≡ length after))

pub stripped_found : (bytes after digest : List ℕ) (result : Option (Bor (List ℕ))) → bytes ≡ 1 ∷ after → Stripped after digest result
    → IfSome result (λ rest. bytes ≡ 1 ∷ (digest ++ rest.now))
stripped_found bytes after digest result e cases = by result (strip_prefix_is Decides-eqb after digest result cases)
  where
    by : (r : Option (Bor (List ℕ))) → MatchOption r ((rest : List ℕ) → after ≢ digest ++ rest) (λ x. after ≡ digest ++ x.now) → IfSome r (λ rest. bytes ≡ 1 ∷ (digest ++ rest.now))
    by None other = tt
    by (Some x) same = e ∙ ap (λ l. 1 ∷ l) same

pub stripped_none : (bytes after digest : List ℕ) (result : Option (Bor (List ℕ))) → bytes ≡ 1 ∷ after → Stripped after digest result
    → IfNone result ((rest : List ℕ) → bytes ≢ 1 ∷ (digest ++ rest))
stripped_none bytes after digest result e cases = by result (strip_prefix_is Decides-eqb after digest result cases)
  where
    by : (r : Option (Bor (List ℕ))) → MatchOption r ((rest : List ℕ) → after ≢ digest ++ rest) (λ x. after ≡ digest ++ x.now) → IfNone r ((rest : List ℕ) → bytes ≢ 1 ∷ (digest ++ rest))
    by None other = λ rest same. other rest (tail_same 1 after (digest ++ rest) (sym e ∙ same))
    by (Some x) same = tt
