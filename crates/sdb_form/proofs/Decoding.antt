-- What a raw text stands for is what the kit's decoder makes of it.
use Rattle.std.proofs.Common.{◌≡◌, ◌≢◌, ℕ, ◌*◌, ◌+◌, true, false, List, [], ◌∷◌, map, refl, ap, ◌∙◌, sym, subst, ⊎_elim, arith}
use Rattle.std.specs.Char.{digit_value, is_digit}
use Rattle.std.specs.List.{AllZip}
use Rattle.std.proofs.lemmas.Bool.{cond-true, cond-false, cases_Bool, ne_eqb, cases_eq}
use Rattle.std.proofs.lemmas.Bool.Decides.{nat_tests}
use Rattle.percent_encoding.specs.Percent.{percent_decode, is_escape}
use Rattle.percent_encoding.proofs.PercentLemmas.{percent_decode-nil, percent_decode_not_percent}
use Rattle.form_urlencoded.specs.Form.{plus_to_space, decode, raw_pairs, parse}
use Rattle.sdb_form.specs.Form.{Decoded, Decodes, HasPairs, begins_escape}
use Rattle.sdb_form.specs.Form.Decoded.{empty, plus_sign, escape, itself}

spaced_other : (b : ℕ) → b ≢ 43 → plus_to_space b ≡ b
spaced_other b other = cond-false _ _ _ (ne_eqb b 43 other)

spaced_digit : (b : ℕ) → is_digit (plus_to_space b) 16 ≡ is_digit b 16
spaced_digit b =
    ⊎_elim
    (λ same. rw same refl)
    (λ other. ap (λ x. is_digit x 16) (spaced_other b other))
    (cases_eq b 43)

-- a digit is no `+`
spaced_if_digit : (b : ℕ) → is_digit b 16 ≡ true → plus_to_space b ≡ b
spaced_if_digit b digit = spaced_other b (λ same. grind (arith, nat_tests))

decode_plus : (b : ℕ) (raw : List ℕ) → b ≡ 43 → decode (b ∷ raw) ≡ 32 ∷ decode raw
decode_plus b raw same = rw same (percent_decode_not_percent 32 _ (λ e. omega arith))

decode_escape : (b high low : ℕ) (raw : List ℕ) → is_escape b high low ≡ true → decode (b ∷ high ∷ low ∷ raw) ≡ (16 * digit_value high + digit_value low) ∷ decode raw
unfolding percent_decode
decode_escape b high low raw found =
    let percent : b ≢ 43 = (λ same. grind (arith, nat_tests)) in
    let first : is_digit high 16 ≡ true = grind (arith, nat_tests) in
    let second : is_digit low 16 ≡ true = grind (arith, nat_tests) in
    rw (spaced_other b percent, spaced_if_digit high first, spaced_if_digit low second) (cond-true _ _ _ found)

escape_spaced : (b high low : ℕ) → b ≢ 43 → is_escape (plus_to_space b) (plus_to_space high) (plus_to_space low) ≡ is_escape b high low
escape_spaced b high low other = rw (spaced_other b other, spaced_digit high, spaced_digit low) refl

decode_itself : (b : ℕ) (raw : List ℕ) → b ≢ 43 → begins_escape (b ∷ raw) ≡ false → decode (b ∷ raw) ≡ b ∷ decode raw
unfolding percent_decode
decode_itself b [] other none = rw (spaced_other b other) refl
decode_itself b (c ∷ []) other none = rw (spaced_other b other) refl
decode_itself b (high ∷ low ∷ raw) other none =
    cond-false _ _ _ (escape_spaced b high low other ∙ none) ∙ ap (λ x. x ∷ decode (high ∷ low ∷ raw)) (spaced_other b other)

pub decoded_only : (raw bytes : List ℕ) → Decoded raw bytes → bytes ≡ decode raw
decoded_only _ _ empty = sym percent_decode-nil
decoded_only _ _ (plus_sign b raw bytes same rest) =
    ap (λ x. 32 ∷ x) (decoded_only raw bytes rest) ∙ sym (decode_plus b raw same)
decoded_only _ _ (escape b high low raw bytes found rest) =
    ap (λ x. (16 * digit_value high + digit_value low) ∷ x) (decoded_only raw bytes rest) ∙ sym (decode_escape b high low raw found)
decoded_only _ _ (itself b raw bytes other none rest) =
    ap (λ x. b ∷ x) (decoded_only raw bytes rest) ∙ sym (decode_itself b raw other none)

-- a byte that begins no escape
decoded_byte : (b : ℕ) (raw : List ℕ) → begins_escape (b ∷ raw) ≡ false → Decoded raw (decode raw) → Decoded (b ∷ raw) (decode (b ∷ raw))
decoded_byte b raw none rest =
    let P = λ (bytes : List ℕ). Decoded (b ∷ raw) bytes in
    ⊎_elim
    (λ same. subst P (sym (decode_plus b raw same)) (plus_sign b raw (decode raw) same rest))
    (λ other. subst P (sym (decode_itself b raw other none)) (itself b raw (decode raw) other none rest))
    (cases_eq b 43)

pub decoded_decode : (raw : List ℕ) → Decoded raw (decode raw)
decoded_decode [] = subst (Decoded []) (sym percent_decode-nil) empty
decoded_decode (b ∷ []) = decoded_byte b [] refl (decoded_decode [])
decoded_decode (b ∷ c ∷ []) = decoded_byte b (c ∷ []) refl (decoded_decode (c ∷ []))
decoded_decode (b ∷ high ∷ low ∷ raw) =
    ⊎_elim
    (λ found. subst (Decoded (b ∷ high ∷ low ∷ raw)) (sym (decode_escape b high low raw found)) (escape b high low raw (decode raw) found (decoded_decode raw)))
    (λ none. decoded_byte b (high ∷ low ∷ raw) none (decoded_decode (high ∷ low ∷ raw)))
    (cases_Bool (is_escape b high low))

-- the pair that a piece stands for
abbrev pub decode_pair : List ℕ × List ℕ → List ℕ × List ℕ
decode_pair piece = (decode piece.0, decode piece.1)

pub all_decoded : (pieces : List (List ℕ × List ℕ)) → AllZip Decodes pieces (map decode_pair pieces)
all_decoded [] = tt
all_decoded (piece ∷ pieces) =
    (record { name = decoded_decode piece.0; value = decoded_decode piece.1 }, all_decoded pieces)

pub all_decoded_only : (pieces pairs : List (List ℕ × List ℕ)) → AllZip Decodes pieces pairs → pairs ≡ map decode_pair pieces
all_decoded_only [] [] same = refl
all_decoded_only [] (pair ∷ pairs) same = absurd same
all_decoded_only (piece ∷ pieces) [] same = absurd same
all_decoded_only (piece ∷ pieces) (pair ∷ pairs) same =
    let name = decoded_only piece.0 pair.0 same.0.name in
    let value = decoded_only piece.1 pair.1 same.0.value in
    let rest = all_decoded_only pieces pairs same.1 in
    λ i. (name i, value i) ∷ rest i

-- a form's pairs are those that the kit's parser finds
pub has_pairs : (form : List ℕ) → HasPairs form (parse form)
has_pairs form = all_decoded (raw_pairs form)

pub only_pairs : (form : List ℕ) (pairs : List (List ℕ × List ℕ)) → HasPairs form pairs → pairs ≡ parse form
only_pairs form pairs = all_decoded_only (raw_pairs form) pairs
