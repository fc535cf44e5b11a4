-- The pairs that a get asks for, taken one after the other.
use Rattle.std.proofs.Common.{◌≡◌, ◌≢◌, ℕ, ◌+◌, ◌<◌, List, ◌∷◌, ◌++◌, [], length, take, get_or, Bool, true, false, if◌then◌else◌, refl, sym, ◌∙◌, ap, append-nil}
use Rattle.std.specs.Str.{bytes_eq}
use Rattle.std.specs.List.{list_any}
use Rattle.std.proofs.lemmas.List.{take_more}
use Rattle.std.proofs.lemmas.List.Elements.{filter-append}
use Rattle.sdb_pairs.specs.declared.pair.Pair.{Pair}
use Rattle.sdb_answer.specs.Gets.{is_asked, asked_pairs}

-- where there is a name, a pair is asked for by its name
pub asked-named : (names : List (List ℕ)) (pair : Pair) → names ≢ [] → is_asked names pair ≡ list_any (bytes_eq pair.name) names
asked-named [] pair some = absurd (some refl)
asked-named (name ∷ names) pair some = refl

one_kept : (names : List (List ℕ)) (pair : Pair) (t : Bool) → is_asked names pair ≡ t → asked_pairs names (pair ∷ []) ≡ (if t then pair ∷ [] else [])
one_kept names pair true is = rw is refl
one_kept names pair false is = rw is refl

-- one pair more
asked-step : (names : List (List ℕ)) (pairs : List Pair) (i : ℕ) (pair : Pair) (t : Bool) → i < length pairs → pair ≡ get_or pairs i pair → is_asked names pair ≡ t
    → asked_pairs names (take (i + 1) pairs) ≡ asked_pairs names (take i pairs) ++ (if t then pair ∷ [] else [])
asked-step names pairs i pair t inside at is =
    let more : take (i + 1) pairs ≡ take i pairs ++ pair ∷ [] = take_more pairs i pair inside ∙ ap (λ p. take i pairs ++ p ∷ []) (sym at) in
    ap (asked_pairs names) more ∙ filter-append (is_asked names) (take i pairs) (pair ∷ []) ∙ ap (λ l. asked_pairs names (take i pairs) ++ l) (one_kept names pair t is)

-- a pair that is asked for
pub asked-take : (names : List (List ℕ)) (pairs : List Pair) (i : ℕ) (pair : Pair) (found newer : List Pair) → i < length pairs → pair ≡ get_or pairs i pair → is_asked names pair ≡ true
    → found ≡ asked_pairs names (take i pairs) → newer ≡ found ++ pair ∷ [] → newer ≡ asked_pairs names (take (i + 1) pairs)
asked-take names pairs i pair found newer inside at is so_far pushed =
    pushed ∙ ap (λ l. l ++ pair ∷ []) so_far ∙ sym (asked-step names pairs i pair true inside at is)

pub asked-skip : (names : List (List ℕ)) (pairs : List Pair) (i : ℕ) (pair : Pair) → i < length pairs → pair ≡ get_or pairs i pair → is_asked names pair ≡ false
    → asked_pairs names (take (i + 1) pairs) ≡ asked_pairs names (take i pairs)
asked-skip names pairs i pair inside at is = asked-step names pairs i pair false inside at is ∙ append-nil (asked_pairs names (take i pairs))
