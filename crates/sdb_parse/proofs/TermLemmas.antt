-- What stands between the signs of a token is a text, and so is each token of a text.
use Rattle.std.proofs.Common.{◌≡◌, ℕ, zero, suc, ◌-◌, ◌<◌, ◌≤◌, Bool, true, false, ◌&&◌, ◌==◌, List, [], ◌∷◌, ◌++◌, length, take, drop, get_or, IsUtf8, if◌then◌else◌, refl, sym, ap, subst, ◌∙◌, arith, inl, inr, append-nil, length-append}
use Rattle.std.proofs.Math.Seq.{take-append_seam, take-length}
use Rattle.std.proofs.Math.Utf8.{scalars, encodes, encode}
use Rattle.std.proofs.lemmas.Bool.{false≢true, cases_lt, eqb-true}
use Rattle.std.proofs.lemmas.Str.{IsUtf8-append, IsUtf8-nil, IsUtf8-from_ascii, encode_ascii, inside_one}
use Rattle.std.specs.Str.{IsAscii}
use Rattle.sdb_parse.specs.Terms.{single, inside}

-- no byte is ASCII
abbrev High : List ℕ → Type 0
High bs = (k : ℕ) → k < length bs → 128 ≤ get_or bs k 0

high_encode : (c : ℕ) → 128 ≤ c → High (encode c)
high_encode c high k within = elim (cases_lt (get_or (encode c) k 0) 128) [
  | inl low ↦ absurd (let same : c ≡ get_or (encode c) k 0 = inside_one c [] (encode c) k (sym (append-nil (encode c))) within low in omega arith)
  | inr h ↦ h
]

other : (b s : ℕ) → s < 128 → 128 ≤ b → (b == s) ≡ false
other b s low high = at (b == s) refl
  where
    at : (t : Bool) → (b == s) ≡ t → (b == s) ≡ false
    at true e = absurd (let same : b ≡ s = eqb-true b s e in omega arith)
    at false e = e

-- bytes that aren't the sign stay
past_high : (s : ℕ) → s < 128 → (bs : List ℕ) → High bs → (pending : Bool) (rest : List ℕ) → (q : Bool) × (single s pending (bs ++ rest) ≡ bs ++ single s q rest)
past_high s low [] high pending rest = (pending, refl)
past_high s low (b ∷ bs) high pending rest =
    let differs : (b == s) ≡ false = other b s low (high 0 (omega arith)) in
    let on = past_high s low bs (λ k h. high (suc k) (omega arith)) (b == s) rest in
    (on.0, kept pending differs ∙ ap (λ l. b ∷ l) on.1)
  where
    kept : (p : Bool) → (b == s) ≡ false → single s p (b ∷ (bs ++ rest)) ≡ b ∷ single s (b == s) (bs ++ rest)
    kept true e = ap (λ t. if t then single s false (bs ++ rest) else b ∷ single s (b == s) (bs ++ rest)) e
    kept false e = refl

both_are : (a b : Bool) → (a && b) ≡ true → (a ≡ true) × (b ≡ true)
both_are true true e = (refl, refl)
both_are true false e = absurd (false≢true e)
both_are false b e = absurd (false≢true e)

one_scalar : (c : ℕ) (cs : List ℕ) → scalars (c ∷ cs) ≡ true → IsUtf8 (encode c) × (scalars cs ≡ true)
one_scalar c cs e =
    let both = both_are _ (scalars cs) e in
    (((c ∷ []), (ap (λ b. b && true) both.0, append-nil (encode c))), both.1)

one_ascii : (b : ℕ) → b < 128 → IsAscii (b ∷ [])
one_ascii b h zero = h
one_ascii b h (suc k) = omega arith

-- a first ASCII byte
one_byte : (s b : ℕ) (rest : List ℕ) (pending : Bool) → b < 128 → ((p : Bool) → IsUtf8 (single s p rest)) → IsUtf8 (single s pending (b ∷ rest))
one_byte s b rest pending low after = at (pending && b == s)
  where
    at : (t : Bool) → IsUtf8 (if t then single s false rest else b ∷ single s (b == s) rest)
    at true = after false
    at false = IsUtf8-append (b ∷ []) (single s (b == s) rest) (IsUtf8-from_ascii (b ∷ []) (one_ascii b low)) (after (b == s))

single_encoded : (s : ℕ) → s < 128 → (cs : List ℕ) → scalars cs ≡ true → (pending : Bool) → IsUtf8 (single s pending (encodes cs))
single_encoded s low [] ok pending = IsUtf8-nil
single_encoded s low (c ∷ cs) ok pending =
    let one = one_scalar c cs ok in
    let after : (p : Bool) → IsUtf8 (single s p (encodes cs)) = single_encoded s low cs one.1 in
    elim (cases_lt c 128) [
      | inl ascii ↦ subst (λ l. IsUtf8 (single s pending (l ++ encodes cs))) (sym (encode_ascii c ascii)) (one_byte s c (encodes cs) pending ascii after)
      | inr high ↦
          let on = past_high s low (encode c) (high_encode c high) pending (encodes cs) in
          subst IsUtf8 (sym on.1) (IsUtf8-append (encode c) (single s on.0 (encodes cs)) one.0 (after on.0))
    ]

pub single_utf8 : (s : ℕ) (bs : List ℕ) → s < 128 → IsUtf8 bs → IsUtf8 (single s false bs)
single_utf8 s bs low (cs, (ok, is)) = subst (λ l. IsUtf8 (single s false l)) is (single_encoded s low cs ok false)

pub inside_is : (piece : List ℕ) (s : ℕ) (inner : List ℕ) → piece ≡ s ∷ (inner ++ s ∷ []) → inside piece ≡ single s false inner
unfolding inside
inside_is piece s inner e =
    let size : length (inner ++ s ∷ []) - 1 ≡ length inner = omega (arith, length-append inner (s ∷ [])) in
    ap inside e ∙ (ap (λ n. single s false (take n (inner ++ s ∷ []))) size ∙ ap (single s false) (take-append_seam inner (s ∷ [])))

-- the two cuts of the code
pub front_is : (piece front : List ℕ) (s : ℕ) (inner : List ℕ) → piece ≡ s ∷ (inner ++ s ∷ []) → front ≡ take (length piece - 2) (take (length piece - 1) (drop 1 piece)) → front ≡ inner
front_is piece front s inner e cut =
    let size : length piece - 2 ≡ length inner = omega (arith, ap length e, length-append inner (s ∷ [])) in
    let whole : length piece - 1 ≡ length (inner ++ s ∷ []) = omega (arith, ap length e, length-append inner (s ∷ [])) in
    cut ∙ (ap (λ n. take n (take (length piece - 1) (drop 1 piece))) size ∙ (ap (λ l. take (length inner) (take (length piece - 1) (drop 1 l))) e
    ∙ (ap (λ n. take (length inner) (take n (inner ++ s ∷ []))) whole ∙ (ap (take (length inner)) (take-length (inner ++ s ∷ [])) ∙ take-append_seam inner (s ∷ [])))))
