-- Texts between signs, with each sign inside doubled.
use Rattle.std.proofs.Common.{◌≡◌, ◌≢◌, ℕ, zero, suc, ◌<◌, Bool, true, false, ◌==◌, List, [], ◌∷◌, ◌++◌, length, get_or, if◌then◌else◌, refl, sym, ap, subst, ◌∙◌, arith, append_assoc, length-append, IsUtf8, ◌+◌, drop}
use Rattle.std.proofs.Math.Seq.{drop-append_seam}
use Rattle.std.proofs.lemmas.Str.{IsUtf8-drop, IsCharBoundary-after_ascii}
use Rattle.std.proofs.lemmas.Bool.Decides.{nat_tests}
use Rattle.sdb_lex.specs.Tokens.{doubled}

-- no byte is the sign
abbrev pub Lacks : ℕ → List ℕ → Type 0
Lacks s bs = (i : ℕ) → i < length bs → get_or bs i 0 ≡ s → ⊥

other : (b s : ℕ) → (b ≡ s → ⊥) → (b == s) ≡ false
other b s h = grind (arith, nat_tests)

self : (s : ℕ) → (s == s) ≡ true
self s = grind (arith, nat_tests)

-- a text up to its first sign
pub doubled_split : (s : ℕ) (xs ys : List ℕ) → Lacks s xs → doubled s (xs ++ s ∷ ys) ≡ xs ++ s ∷ s ∷ doubled s ys
doubled_split s [] ys lacks = ap (λ b. if b then s ∷ s ∷ doubled s ys else s ∷ doubled s ys) (self s)
doubled_split s (x ∷ xs) ys lacks =
    ap (λ b. if b then s ∷ s ∷ doubled s (xs ++ s ∷ ys) else x ∷ doubled s (xs ++ s ∷ ys)) (other x s (lacks 0 (omega arith)))
    ∙ ap (λ l. x ∷ l) (doubled_split s xs ys (λ i h. lacks (suc i) (omega arith)))

-- a text without the sign
pub not_doubled : (s : ℕ) (xs : List ℕ) → Lacks s xs → doubled s xs ≡ xs
not_doubled s [] lacks = refl
not_doubled s (x ∷ xs) lacks =
    ap (λ b. if b then s ∷ s ∷ doubled s xs else x ∷ doubled s xs) (other x s (lacks 0 (omega arith))) ∙ ap (λ l. x ∷ l) (not_doubled s xs (λ i h. lacks (suc i) (omega arith)))

-- steps of the printer: what is written so far, and what is to come, is the whole
pub part_written : (whole line line1 line2 line3 left before after : List ℕ) (s : ℕ) → line ++ (doubled s left ++ s ∷ []) ≡ whole → left ≡ before ++ s ∷ after → Lacks s before →
    line1 ≡ line ++ before → line2 ≡ line1 ++ s ∷ [] → line3 ≡ line2 ++ s ∷ [] → line3 ++ (doubled s after ++ s ∷ []) ≡ whole
part_written whole line line1 line2 line3 left before after s going split lacks e1 e2 e3 =
    ap (λ l. l ++ tail) (e3 ∙ (ap (λ l. l ++ s ∷ []) (e2 ∙ ap (λ l. l ++ s ∷ []) e1)))
    ∙ (append_assoc ((line ++ before) ++ s ∷ []) (s ∷ []) tail
    ∙ (append_assoc (line ++ before) (s ∷ []) (s ∷ tail)
    ∙ (append_assoc line before (s ∷ s ∷ tail)
    ∙ (ap (λ l. line ++ l) (sym (append_assoc before (s ∷ s ∷ doubled s after) (s ∷ [])) ∙ ap (λ l. l ++ s ∷ []) (sym (doubled_split s before after lacks) ∙ ap (doubled s) (sym split))) ∙ going))))
  where
    tail : List ℕ
    tail = doubled s after ++ s ∷ []

pub all_written : (whole line line1 line2 left : List ℕ) (s : ℕ) → line ++ (doubled s left ++ s ∷ []) ≡ whole → Lacks s left → line1 ≡ line ++ left → line2 ≡ line1 ++ s ∷ [] → line2 ≡ whole
all_written whole line line1 line2 left s going lacks e1 e2 =
    e2 ∙ (ap (λ l. l ++ s ∷ []) e1 ∙ (append_assoc line left (s ∷ []) ∙ (ap (λ l. line ++ (l ++ s ∷ [])) (sym (not_doubled s left lacks)) ∙ going)))

at_seam : (a : List ℕ) (s : ℕ) (bs : List ℕ) → get_or (a ++ s ∷ bs) (length a) 0 ≡ s
at_seam [] s bs = refl
at_seam (x ∷ a) s bs = at_seam a s bs

past : (a bs : List ℕ) (s : ℕ) → drop (length a + 1) (a ++ s ∷ bs) ≡ bs
past a bs s =
    let size : length a + 1 ≡ length (a ++ s ∷ []) = omega (arith, length-append a (s ∷ [])) in
    ap (drop (length a + 1)) (sym (append_assoc a (s ∷ []) bs)) ∙ (ap (λ n. drop n ((a ++ s ∷ []) ++ bs)) size ∙ drop-append_seam (a ++ s ∷ []) bs)

-- what follows an ASCII byte of a text is a text
pub after_utf8 : (left before after : List ℕ) (s : ℕ) → s < 128 → left ≡ before ++ s ∷ after → IsUtf8 left → IsUtf8 after
after_utf8 left before after s low split utf8 =
    let whole : List ℕ = before ++ s ∷ after in
    let at : get_or whole (length before) 0 ≡ s = at_seam before s after in
    let size : length whole ≡ length before + (1 + length after) = omega (arith, length-append before (s ∷ after)) in
    let text : IsUtf8 whole = subst IsUtf8 split utf8 in
    subst IsUtf8 (past before after s) (IsUtf8-drop whole (length before + 1) text (IsCharBoundary-after_ascii whole (length before) text (omega arith) (omega arith)))
