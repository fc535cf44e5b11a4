-- The bytes of tokens are below 256, so their base64 gives them back.
use Rattle.std.proofs.Common.{◌≡◌, ℕ, zero, suc, ◌+◌, ◌/◌, ◌%◌, ◌<◌, ◌≤◌, ◌⊎◌, inl, inr, true, List, [], ◌∷◌, ◌++◌, length, Option, None, Some, IfSome, Result, Ok, Err, refl, sym, ap, subst, arith, IsUtf8}
use Rattle.std.proofs.lemmas.Bool.{and_parts, cases_lt, cond_above, cond_below}
use Rattle.std.specs.Result.{result_ok}
use Rattle.std.specs.Str.{encode_utf8_all, all_scalars}
use lib.Utf8.{encode, scalar_cases}
use Rattle.base64.specs.declared.decode.DecodeError.{DecodeError}
use Rattle.base64.specs.Engines.{standard}
use Rattle.base64.specs.GeneralPurpose.{IsBytes, decode_of}
use Rattle.base64.proofs.EngineFacts.{decode_of-encode_of, decode_of_strict}
use Rattle.sdb_format.specs.Letters.{text_bytes, IsTextWithin}
use Rattle.sdb_token.specs.declared.position.Position.{Position}
use Rattle.sdb_token.specs.Reading.{decoded}
use Rattle.sdb_token.specs.Tokens.{key_bytes, position_bytes, token_bytes, in_base64, IsDigest, IsPosition}

nil_bytes : IsBytes []
nil_bytes i = omega arith

cons_bytes : (b : ℕ) (bs : List ℕ) → b < 256 → IsBytes bs → IsBytes (b ∷ bs)
cons_bytes b bs small rest zero = small
cons_bytes b bs small rest (suc i) = rest i

append_bytes : (xs ys : List ℕ) → IsBytes xs → IsBytes ys → IsBytes (xs ++ ys)
append_bytes [] ys front rest i = rest i
append_bytes (x ∷ xs) ys front rest zero = front 0
append_bytes (x ∷ xs) ys front rest (suc i) = append_bytes xs ys (λ k. front (suc k)) rest i

-- ---- UTF-8
one : (c : ℕ) → c < 128 → encode c ≡ c ∷ []
unfolding encode
one c h = sym (cond_below c 128 _ _ h)

two : (c : ℕ) → 128 ≤ c → c < 2048 → encode c ≡ (192 + c / 64) ∷ (128 + c % 64) ∷ []
unfolding encode
two c l h = sym (cond_above c 128 _ _ _ l (cond_below c 2048 _ _ h))

three : (c : ℕ) → 2048 ≤ c → c < 65536 → encode c ≡ (224 + c / 4096) ∷ (128 + c / 64 % 64) ∷ (128 + c % 64) ∷ []
unfolding encode
three c l h = sym (cond_above c 128 _ _ _ (omega arith) (cond_above c 2048 _ _ _ l (cond_below c 65536 _ _ h)))

four : (c : ℕ) → 65536 ≤ c → encode c ≡ (240 + c / 262144) ∷ (128 + c / 4096 % 64) ∷ (128 + c / 64 % 64) ∷ (128 + c % 64) ∷ []
unfolding encode
four c l = sym (cond_above c 128 _ _ _ (omega arith) (cond_above c 2048 _ _ _ (omega arith) (cond_above c 65536 _ _ _ l refl)))

later : (n : ℕ) (bs : List ℕ) → IsBytes bs → IsBytes ((128 + n % 64) ∷ bs)
later n bs rest = cons_bytes (128 + n % 64) bs (omega arith) rest

char_bytes : (c : ℕ) → (c < 55296) ⊎ ((57344 ≤ c) × (c < 1114112)) → IsBytes (encode c)
char_bytes c is_scalar = by (top is_scalar) (cases_lt c 128) (cases_lt c 2048) (cases_lt c 65536)
  where
    top : (c < 55296) ⊎ ((57344 ≤ c) × (c < 1114112)) → c < 1114112
    top (inl h) = omega arith
    top (inr h) = h.1

    by : c < 1114112 → (c < 128) ⊎ (128 ≤ c) → (c < 2048) ⊎ (2048 ≤ c) → (c < 65536) ⊎ (65536 ≤ c) → IsBytes (encode c)
    by t (inl h) _ _ = subst IsBytes (sym (one c h)) (cons_bytes c [] (omega arith) nil_bytes)
    by t (inr l) (inl h) _ = subst IsBytes (sym (two c l h)) (cons_bytes (192 + c / 64) ((128 + c % 64) ∷ []) (omega arith) (later c [] nil_bytes))
    by t (inr l) (inr l2) (inl h) = subst IsBytes (sym (three c l2 h)) (cons_bytes (224 + c / 4096) ((128 + c / 64 % 64) ∷ (128 + c % 64) ∷ []) (omega arith) (later (c / 64) ((128 + c % 64) ∷ []) (later c [] nil_bytes)))
    by t (inr l) (inr l2) (inr l3) = subst IsBytes (sym (four c l3)) (cons_bytes (240 + c / 262144) ((128 + c / 4096 % 64) ∷ (128 + c / 64 % 64) ∷ (128 + c % 64) ∷ []) (omega arith)
        (later (c / 4096) ((128 + c / 64 % 64) ∷ (128 + c % 64) ∷ []) (later (c / 64) ((128 + c % 64) ∷ []) (later c [] nil_bytes))))

chars_bytes : (cs : List ℕ) → all_scalars cs ≡ true → IsBytes (encode_utf8_all cs)
chars_bytes [] e = nil_bytes
chars_bytes (c ∷ cs) e =
    let parts = and_parts _ _ e in
    append_bytes (encode c) (encode_utf8_all cs) (char_bytes c (scalar_cases c parts.0)) (chars_bytes cs parts.1)

pub utf8_bytes : (bs : List ℕ) → IsUtf8 bs → IsBytes bs
utf8_bytes bs utf8 = subst IsBytes utf8.1.1 (chars_bytes utf8.0 utf8.1.0)

-- ---- the bytes of a token
text_are_bytes : (least most : ℕ) (text : List ℕ) → most < 65536 → IsTextWithin least most text → IsBytes (text_bytes text)
text_are_bytes least most text small is =
    let n = length text in
    cons_bytes (n / 256) (n % 256 ∷ text) (omega (arith, is.high)) (cons_bytes (n % 256) text (omega arith) (utf8_bytes text is.utf8))

key_are_bytes : (key : Option (List ℕ)) → IfSome key (IsTextWithin 0 1024) → IsBytes (key_bytes key)
key_are_bytes None is = cons_bytes 0 [] (omega arith) nil_bytes
key_are_bytes (Some key) is = cons_bytes 1 (text_bytes key) (omega arith) (text_are_bytes 0 1024 key (omega arith) is)

pub token_are_bytes : (digest : List ℕ) (position : Position) → IsDigest digest → IsPosition position → IsBytes (token_bytes digest position)
token_are_bytes digest position is_digest is =
    cons_bytes 1 (digest ++ position_bytes position) (omega arith)
    (append_bytes digest (position_bytes position) is_digest.bytes
    (append_bytes (key_bytes position.key) (text_bytes position.name) (key_are_bytes position.key is.key_is) (text_are_bytes 1 1024 position.name (omega arith) is.name_is)))

-- ---- base64
pub decoded-in_base64 : (bytes : List ℕ) → IsBytes bytes → decoded (in_base64 bytes) ≡ Some bytes
unfolding decoded in_base64
decoded-in_base64 bytes are = ap result_ok (decode_of-encode_of standard bytes refl are)

ok_from : (r : Result (List ℕ) DecodeError) (bytes : List ℕ) → result_ok r ≡ Some bytes → r ≡ Ok bytes
ok_from (Ok x) bytes e = cc
ok_from (Err fault) bytes e = cc

pub in_base64-decoded : (text bytes : List ℕ) → IsBytes text → decoded text ≡ Some bytes → text ≡ in_base64 bytes
unfolding decoded in_base64
in_base64-decoded text bytes are e = decode_of_strict standard text bytes (refl, refl) are (ok_from (decode_of standard text) bytes e)
