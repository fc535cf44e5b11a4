-- First places.
use Rattle.std.proofs.Common.{◌≡◌, ℕ, ◌+◌, List, ◌∷◌, ◌++◌, [], length, All, get_or, sym, subst, ◌∙◌, ap, ⊎_elim, arith, length-append}
use Rattle.std.proofs.lemmas.Bool.{cases_order}
use Rattle.std.proofs.lemmas.List.Elements.{All-get_or}
use Rattle.std.proofs.Math.ListN.{get_or-append}
use Rattle.std.proofs.Math.Seq.{get_or-append_seam}
use Rattle.sdb_form.specs.Form.{IsFirst, IsSpoiled, IsTextPair}

pub one_first : (P : ℕ → Type 0) (m n : ℕ) → IsFirst P m → IsFirst P n → m ≡ n
one_first P m n a b =
    ⊎_elim
    (λ same. same)
    (λ apart. ⊎_elim (λ below. absurd (b.least m below a.holds)) (λ above. absurd (a.least n above b.holds)) apart)
    (cases_order m n)

-- the first pair that isn't text stands after pairs that are
pub first_spoiled : (pairs before after : List (List ℕ × List ℕ)) (pair : List ℕ × List ℕ) → pairs ≡ before ++ pair ∷ after → All IsTextPair before → ¬ (IsTextPair pair) → IsFirst (IsSpoiled pairs) (length before)
first_spoiled pairs before after pair all texts spoiled =
    let none : List ℕ × List ℕ = ([], []) in
    let here : get_or pairs (length before) none ≡ pair = ap (λ xs. get_or xs (length before) none) all ∙ get_or-append_seam before pair after none in
    let long : length pairs ≡ length before + length (pair ∷ after) = ap length all ∙ length-append before (pair ∷ after) in
    record {
      holds = (omega arith, λ text. spoiled (subst IsTextPair here text));
      least = λ k below bad. bad.1 (subst IsTextPair (sym (ap (λ xs. get_or xs k none) all ∙ get_or-append before (pair ∷ after) none k below)) (All-get_or IsTextPair before k none below texts));
    }
