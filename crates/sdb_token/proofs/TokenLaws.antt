-- Tokens and positions are one to one.
use Rattle.std.proofs.Common.{◌≡◌, ◌⊎◌, inl, inr, ℕ, Bool, List, Option, None, Some, IfErr, IfOk, MatchResult, Result, Ok, Err, ok_or, option_and_then, refl, sym, ◌∙◌, ap, subst, IsUtf8}
use Rattle.sdb_tables.specs.declared.refusal.Refusal.{Refusal}
use Rattle.sdb_tables.specs.declared.refusal.Refusal.TheVariants.{InvalidNextToken, OutOfMemory}
use Rattle.sdb_tables.specs.Answers.{Answers}
use Rattle.sdb_token.specs.declared.position.Position.{Position}
use Rattle.sdb_token.specs.Laws.{OneDigestAndPosition, TokensAreRead, OnlyTokensAreRead}
use Rattle.sdb_token.specs.Reading.{decoded, position_in, token_position}
use Rattle.sdb_token.specs.Tokens.{token, token_bytes, in_base64, IsDigest, IsTokenOf}
use Rattle.sdb_token.proofs.ByteLemmas.{token_are_bytes, utf8_bytes, decoded-in_base64, in_base64-decoded}
use Rattle.sdb_token.proofs.PositionLemmas.{in_token, same_parts, token_in}

pub one_digest_and_position : OneDigestAndPosition
one_digest_and_position digest other position another is_digest is_other is is_too same =
    let first : decoded (token digest position) ≡ Some (token_bytes digest position) = decoded-in_base64 _ (token_are_bytes digest position is_digest is) in
    let next : decoded (token digest position) ≡ Some (token_bytes other another) = ap decoded same ∙ decoded-in_base64 _ (token_are_bytes other another is_other is_too) in
    same_parts digest other position another is_digest.size is_other.size is is_too (same_found (decoded (token digest position)) _ _ first next)
  where
    same_found : (found : Option (List ℕ)) (one two : List ℕ) → found ≡ Some one → found ≡ Some two → one ≡ two
    same_found found one two first next = cc

pub tokens_are_read : TokensAreRead
tokens_are_read digest keyed position text is_digest is =
    ap (λ t. ok_or (option_and_then (position_in digest keyed) (decoded t)) InvalidNextToken) is.text_is
    ∙ ap (λ found. ok_or (option_and_then (position_in digest keyed) found) InvalidNextToken) (decoded-in_base64 _ (token_are_bytes digest position is_digest is.lawful))
    ∙ ap (λ found. ok_or found InvalidNextToken) (token_in digest keyed position is_digest.size (is.keyed_is, is.lawful))

pub only_tokens_are_read : OnlyTokensAreRead
only_tokens_are_read digest keyed position text is_digest utf8 read = by (decoded text) refl read
  where
    found_from : (found : Option Position) → ok_or found InvalidNextToken ≡ Ok position → found ≡ Some position
    found_from None e = cc e
    found_from (Some x) e = cc

    by : (found : Option (List ℕ)) → decoded text ≡ found → ok_or (option_and_then (position_in digest keyed) found) InvalidNextToken ≡ Ok position → IsTokenOf digest keyed position text
    by None e none = cc none
    by (Some bytes) e some =
        let parts = in_token digest bytes keyed position is_digest.size (found_from (position_in digest keyed bytes) some) in
        record { lawful = parts.0.1; keyed_is = parts.0.0; text_is = in_base64-decoded text bytes (utf8_bytes text utf8) e ∙ ap in_base64 parts.1 }

-- ---- what an answer says
pub none_answered : (digest : List ℕ) (keyed : Bool) (text : List ℕ) → decoded text ≡ None → token_position digest keyed text ≡ Err InvalidNextToken
none_answered digest keyed text e = ap (λ found. ok_or (option_and_then (position_in digest keyed) found) InvalidNextToken) e

pub some_answered : (digest : List ℕ) (keyed : Bool) (text bytes : List ℕ) (result : Result Position Refusal) → decoded text ≡ Some bytes
    → Answers (ok_or (position_in digest keyed bytes) InvalidNextToken) result → Answers (token_position digest keyed text) result
some_answered digest keyed text bytes result e answers =
    subst (λ given. Answers given result) (sym (ap (λ found. ok_or (option_and_then (position_in digest keyed) found) InvalidNextToken) e)) answers

pub found : (digest : List ℕ) (keyed : Bool) (text : List ℕ) (result : Result Position Refusal) → IsDigest digest → IsUtf8 text → Answers (token_position digest keyed text) result
    → IfOk result (λ position. IsTokenOf digest keyed position text)
found digest keyed text (Ok position) is_digest utf8 read = only_tokens_are_read digest keyed position text is_digest utf8 read
found digest keyed text (Err refusal) is_digest utf8 answers = tt

both : {X : Type 0} (answer : Result Position Refusal) (position : Position) (refusal : Refusal) → answer ≡ Ok position → answer ≡ Err refusal → X
both answer position refusal ok err = absurd (cc)

pub only : (digest : List ℕ) (keyed : Bool) (text : List ℕ) (result : Result Position Refusal) → IsDigest digest → Answers (token_position digest keyed text) result
    → (position : Position) → IsTokenOf digest keyed position text → MatchResult result (λ found. found ≡ position) (λ refusal. refusal ≡ OutOfMemory)
only digest keyed text (Ok other) is_digest read position is =
    let whole = tokens_are_read digest keyed position text is_digest is in
    same (token_position digest keyed text) other position read whole
  where
    same : (answer : Result Position Refusal) (one two : Position) → answer ≡ Ok one → answer ≡ Ok two → one ≡ two
    same answer one two first next = cc
only digest keyed text (Err refusal) is_digest (inl short) position is = short
only digest keyed text (Err refusal) is_digest (inr none) position is = both (token_position digest keyed text) position refusal (tokens_are_read digest keyed position text is_digest is) none

pub refused : (digest : List ℕ) (keyed : Bool) (text : List ℕ) (result : Result Position Refusal) → IsDigest digest → Answers (token_position digest keyed text) result
    → IfErr result (λ refusal. (refusal ≡ OutOfMemory) ⊎ ((refusal ≡ InvalidNextToken) × ((position : Position) → IsTokenOf digest keyed position text → ⊥)))
refused digest keyed text (Ok position) is_digest answers = tt
refused digest keyed text (Err refusal) is_digest (inl short) = inl short
refused digest keyed text (Err refusal) is_digest (inr none) =
    inr (refusal_is (option_and_then (position_in digest keyed) (decoded text)) none, λ position is. both (token_position digest keyed text) position refusal (tokens_are_read digest keyed position text is_digest is) none)
  where
    refusal_is : (found : Option Position) → ok_or found InvalidNextToken ≡ Err refusal → refusal ≡ InvalidNextToken
    refusal_is None e = cc
    refusal_is (Some x) e = cc e
