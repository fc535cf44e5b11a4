-- What a read takes off the front of the bytes.
use Rattle.std.proofs.Common.{◌≡◌, ℕ, ◌+◌, ◌-◌, ◌<◌, min, List, [], ◌++◌, length, take, drop, sym, ap, ◌∙◌, arith, take-append-drop, drop_of_length-le}
use Rattle.std.proofs.lemmas.List.{take_rest, drop-drop}

pub taken_off : (left bytes from new : List ℕ) (at n room : ℕ) → from ≡ bytes → drop at bytes ≡ left
    → n ≡ min room (length (take (length from - at) (drop at from)))
    → take n new ≡ take n (take (length from - at) (drop at from))
    → length new ≡ room
    → (left ≡ take n new ++ drop (at + n) bytes) × (n ≡ 0 → 0 < length new → drop (at + n) bytes ≡ [])
taken_off left bytes from new at n room same is_left count copied size =
    let rest : take (length from - at) (drop at from) ≡ left = take_rest from at ∙ ap (drop at) same ∙ is_left in
    let after : drop (at + n) bytes ≡ drop n left = sym (drop-drop n at bytes) ∙ ap (drop n) is_left in
    let front : take n new ≡ take n left = copied ∙ ap (take n) rest in (
      sym (take-append-drop n left) ∙ ap (λ l. l ++ drop n left) (sym front) ∙ ap (λ l. take n new ++ l) (sym after),
      λ none some. after ∙ drop_of_length-le left {i = n} (omega (arith, ap length rest)),
    )
