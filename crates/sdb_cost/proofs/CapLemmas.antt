-- Sums that are kept as far as 64 bits hold them.
use Rattle.std.proofs.Common.{◌≡◌, ℕ, ◌+◌, ◌*◌, ◌<◌, ◌≤◌, List, [], ◌∷◌, ◌++◌, length, take, get_or, refl, sym, ◌∙◌, ap, arith}
use Rattle.std.specs.Prelude.{sum_by}
use Rattle.std.proofs.lemmas.List.{take_more, take_all}
use Rattle.std.proofs.lemmas.List.Sums.{sum_by-append}
use Rattle.sdb_cost.specs.Units.{capped}

pub capped-left : (a b : ℕ) → capped (capped a + b) ≡ capped (a + b)
capped-left a b = omega arith

pub capped-right : (a b : ℕ) → capped (a + capped b) ≡ capped (a + b)
capped-right a b = omega arith

-- two hundred for each of a number, fifty for each of a number
pub capped-200 : (a n : ℕ) → capped (a + 200 * capped n) ≡ capped (a + 200 * n)
capped-200 a n = omega arith

pub capped-50 : (a n : ℕ) → capped (a + 50 * capped n) ≡ capped (a + 50 * n)
capped-50 a n = omega arith

sum-step : {A : Type 0} (f : A → ℕ) (xs : List A) (i : ℕ) (x : A) → i < length xs → x ≡ get_or xs i x → sum_by f (take (i + 1) xs) ≡ sum_by f (take i xs) + f x
sum-step f xs i x inside at =
    let one : sum_by f (take (i + 1) xs) ≡ sum_by f (take i xs) + sum_by f (x ∷ []) = ap (sum_by f) (take_more xs i x inside ∙ ap (λ y. take i xs ++ y ∷ []) (sym at)) ∙ sum_by-append f (take i xs) (x ∷ []) in
    let last : sum_by f (x ∷ []) ≡ f x = omega arith in
    one ∙ ap (λ n. sum_by f (take i xs) + n) last

-- one member more is counted
pub counted-step : {A : Type 0} (f : A → ℕ) (xs : List A) (i count newer : ℕ) (x : A) → i < length xs → x ≡ get_or xs i x
    → count ≡ capped (sum_by f (take i xs)) → newer ≡ capped (count + f x) → newer ≡ capped (sum_by f (take (i + 1) xs))
counted-step f xs i count newer x inside at so_far added =
    added ∙ ap (λ n. capped (n + f x)) so_far ∙ capped-left (sum_by f (take i xs)) (f x) ∙ ap capped (sym (sum-step f xs i x inside at))

-- all members are counted
pub counted-all : {A : Type 0} (f : A → ℕ) (xs : List A) (i count : ℕ) → length xs ≤ i → count ≡ capped (sum_by f (take i xs)) → count ≡ capped (sum_by f xs)
counted-all f xs i count end so_far = so_far ∙ ap (λ l. capped (sum_by f l)) (take_all i xs end)
