-- Texts between their special bytes.
use Rattle.std.proofs.Common.{◌≡◌, ℕ, zero, suc, ◌+◌, ◌-◌, ◌<◌, ◌≤◌, List, [], ◌∷◌, ◌++◌, ◌||◌, length, take, drop, get_or, Bool, true, false, cond, nat_lt, ◌==◌, if◌then◌else◌, Some, None, refl, sym, ◌∙◌, ap, subst, arith, append_assoc, append-nil, add-one, drop-cons, take_all}
use Rattle.std.specs.List.{position_or_len, position}
use Rattle.std.proofs.lemmas.Bool.{ltb-true, leb-false}
use Rattle.std.proofs.lemmas.List.{drop_all, take_rest}
use Rattle.std.proofs.lemmas.List.Concat.{flat_map-cons}
use Rattle.sdb_reply.specs.Escape.{escaped, escape_of, is_special}

last_choice : (p q r s : Bool) (a b c d e : List ℕ) → (((p || q) || r) || s) ≡ false
    → (if p then a else (if q then b else (if r then c else (if s then d else e)))) ≡ e
last_choice false false false false a b c d e none = refl
last_choice true q r s a b c d e none = cc
last_choice false true r s a b c d e none = cc
last_choice false false true s a b c d e none = cc
last_choice false false false true a b c d e none = cc

-- a byte that isn't special stands for itself
escape_of-plain : (b : ℕ) → is_special b ≡ false → escape_of b ≡ b ∷ []
escape_of-plain b plain = last_choice (b == 38) (b == 60) (b == 62) (b == 13) _ _ _ _ (b ∷ []) plain

abbrev Runs : List ℕ → ℕ → Type 0
Runs bytes at = escaped bytes ≡ take at bytes ++ escaped (drop at bytes)

escaped-run-step : (b : ℕ) (bytes : List ℕ) (t : Bool) → is_special b ≡ t → Runs bytes (position_or_len is_special bytes) → Runs (b ∷ bytes) (position_or_len is_special (b ∷ bytes))
escaped-run-step b bytes true special runs = rw special refl
escaped-run-step b bytes false plain runs =
    let at = position_or_len is_special bytes in
    let one : 1 + at ≡ suc at = omega arith in
    rw plain (rw one (flat_map-cons escape_of b bytes ∙ ap (λ l. l ++ escaped bytes) (escape_of-plain b plain) ∙ ap (λ l. b ∷ l) runs))

-- the bytes before the first special one stand as they are
escaped-run : (bytes : List ℕ) → Runs bytes (position_or_len is_special bytes)
escaped-run [] = refl
escaped-run (b ∷ bytes) = escaped-run-step b bytes (is_special b) refl (escaped-run bytes)

found_at : (bytes : List ℕ) (at : ℕ) → position is_special bytes ≡ Some at → (at ≡ position_or_len is_special bytes) × (at < length bytes)
found_at bytes at =
    let first = position_or_len is_special bytes in
    elim (nat_lt first (length bytes)) as (λ t. nat_lt first (length bytes) ≡ t → cond t (Some first) None ≡ Some at → (at ≡ first) × (at < length bytes))
    [ true ↦ λ lt e. let same : at ≡ first = cc in (same, let h = ltb-true _ _ lt in omega arith) | false ↦ λ lt e. cc ] refl

found_none : (bytes : List ℕ) → position is_special bytes ≡ None → length bytes ≤ position_or_len is_special bytes
found_none bytes =
    let first = position_or_len is_special bytes in
    elim (nat_lt first (length bytes)) as (λ t. nat_lt first (length bytes) ≡ t → cond t (Some first) None ≡ None → length bytes ≤ first)
    [ true ↦ λ lt e. cc | false ↦ λ lt e. let h = leb-false _ _ lt in omega arith ] refl

-- a run, and the special byte that ends it
pub escaped-special : (bytes : List ℕ) (at : ℕ) → position is_special bytes ≡ Some at
    → escaped bytes ≡ (take at bytes ++ escape_of (get_or bytes at 0)) ++ escaped (drop (at + 1) bytes)
escaped-special bytes at found =
    let place = found_at bytes at found in
    let run : Runs bytes at = subst (Runs bytes) (sym place.0) (escaped-run bytes) in
    let rest : drop at bytes ≡ get_or bytes at 0 ∷ drop (at + 1) bytes = rw add-one (drop-cons bytes at 0 place.1) in
    run ∙ ap (λ l. take at bytes ++ escaped l) rest ∙ sym (append_assoc (take at bytes) (escape_of (get_or bytes at 0)) (escaped (drop (at + 1) bytes)))

-- where no byte is special, the text stands as it is
pub escaped-plain : (bytes : List ℕ) → position is_special bytes ≡ None → escaped bytes ≡ bytes
escaped-plain bytes none =
    let all = found_none bytes none in
    let rest : drop (position_or_len is_special bytes) bytes ≡ [] = drop_all (position_or_len is_special bytes) bytes all in
    escaped-run bytes ∙ ap (λ l. take (position_or_len is_special bytes) bytes ++ escaped l) rest ∙ append-nil _ ∙ take_all (position_or_len is_special bytes) bytes all

drop_next : (n : ℕ) (bytes : List ℕ) → drop 1 (drop n bytes) ≡ drop (suc n) bytes
drop_next zero bytes = refl
drop_next (suc n) [] = refl
drop_next (suc n) (b ∷ bytes) = drop_next n bytes

-- what stands after the byte at a place, as two slices of the rest give it
pub after_place : (bytes : List ℕ) (at : ℕ) → (let tail = take (length bytes - at) (drop at bytes) in take (length tail - 1) (drop 1 tail)) ≡ drop (at + 1) bytes
after_place bytes at =
    let next : suc at ≡ at + 1 = omega arith in
    take_rest (take (length bytes - at) (drop at bytes)) 1 ∙ ap (drop 1) (take_rest bytes at) ∙ drop_next at bytes ∙ ap (λ n. drop n bytes) next

-- one run more is appended, with the special byte that ends it
pub escaped-step : (all out newer rest : List ℕ) (at : ℕ) → all ≡ out ++ escaped rest → position is_special rest ≡ Some at
    → newer ≡ (out ++ take at rest) ++ escape_of (get_or rest at 0) → all ≡ newer ++ escaped (drop (at + 1) rest)
escaped-step all out newer rest at whole found appended =
    let tail = escaped (drop (at + 1) rest) in
    whole ∙ ap (λ l. out ++ l) (escaped-special rest at found)
    ∙ sym (append_assoc out (take at rest ++ escape_of (get_or rest at 0)) tail)
    ∙ ap (λ l. l ++ tail) (sym (append_assoc out (take at rest) (escape_of (get_or rest at 0))) ∙ sym appended)
