-- Texts that grow by one member of a list at a time.
use Rattle.std.proofs.Common.{◌≡◌, ℕ, ◌+◌, ◌<◌, ◌≤◌, List, [], ◌∷◌, ◌++◌, length, take, drop, get_or, refl, sym, ◌∙◌, ap, arith, append-nil, append_assoc, length-append}
use Rattle.std.specs.Borrow.{Bor}
use Rattle.std.specs.List.{flat_map}
use Rattle.std.proofs.lemmas.List.{take_more, take_all, take-append-drop}
use Rattle.std.proofs.lemmas.Grind.{flat_map-append}
use Rattle.sdb_pairs.specs.declared.pair.Pair.{Pair}
use Rattle.sdb_pairs.specs.Listing.{lent}
use Rattle.sdb_reply.specs.Results.{attribute, attributes}

-- what stands for one member more
pub flat_map-at : {A : Type 0} (f : A → List ℕ) (xs : List A) (i : ℕ) (d : A) → i < length xs → flat_map f (take (i + 1) xs) ≡ flat_map f (take i xs) ++ f (get_or xs i d)
flat_map-at f xs i d inside =
    ap (flat_map f) (take_more xs i d inside)
    ∙ flat_map-append f (take i xs) (get_or xs i d ∷ [])
    ∙ ap (λ l. flat_map f (take i xs) ++ l) (append-nil (f (get_or xs i d)))

-- one member more is appended
pub appended-at : {A : Type 0} (f : A → List ℕ) (xs : List A) (i : ℕ) (d : A) (old new newer : List ℕ) → i < length xs
    → new ≡ old ++ flat_map f (take i xs) → newer ≡ new ++ f (get_or xs i d) → newer ≡ old ++ flat_map f (take (i + 1) xs)
appended-at f xs i d old new newer inside so_far appended =
    appended ∙ ap (λ l. l ++ f (get_or xs i d)) so_far ∙ append_assoc old (flat_map f (take i xs)) (f (get_or xs i d))
    ∙ ap (λ l. old ++ l) (sym (flat_map-at f xs i d inside))

pub appended-step : {A : Type 0} (f : A → List ℕ) (xs : List A) (i : ℕ) (x : A) (old new newer : List ℕ) → i < length xs → x ≡ get_or xs i x
    → new ≡ old ++ flat_map f (take i xs) → newer ≡ new ++ f x → newer ≡ old ++ flat_map f (take (i + 1) xs)
appended-step f xs i x old new newer inside at so_far appended = appended-at f xs i x old new newer inside so_far (appended ∙ ap (λ y. new ++ f y) at)

-- all members are appended
pub appended-all : {A : Type 0} (f : A → List ℕ) (xs : List A) (i : ℕ) (old new : List ℕ) → length xs ≤ i → new ≡ old ++ flat_map f (take i xs) → new ≡ old ++ flat_map f xs
appended-all f xs i old new end so_far = so_far ∙ ap (λ l. old ++ flat_map f l) (take_all i xs end)

-- one member more takes no more room than it has bytes
pub room-at : {A : Type 0} (f : A → List ℕ) (xs : List A) (i : ℕ) (d : A) (old mid new : ℕ) → i < length xs
    → old ≤ mid + length (flat_map f (take i xs)) → mid ≤ new + length (f (get_or xs i d)) → old ≤ new + length (flat_map f (take (i + 1) xs))
room-at f xs i d old mid new inside so_far appended =
    omega (arith, so_far, appended, ap length (flat_map-at f xs i d inside), length-append (flat_map f (take i xs)) (f (get_or xs i d)))

-- where there is room for all, there is room for the next member
pub room-left : {A : Type 0} (f : A → List ℕ) (xs : List A) (i : ℕ) (d : A) (old mid : ℕ) → i < length xs
    → old ≤ mid + length (flat_map f (take i xs)) → length (flat_map f xs) ≤ old → length (f (get_or xs i d)) ≤ mid
room-left f xs i d old mid inside so_far all =
    let whole : flat_map f xs ≡ flat_map f (take (i + 1) xs) ++ flat_map f (drop (i + 1) xs) = ap (flat_map f) (sym (take-append-drop (i + 1) xs)) ∙ flat_map-append f (take (i + 1) xs) (drop (i + 1) xs) in
    omega (arith, so_far, all, ap length whole, length-append (flat_map f (take (i + 1) xs)) (flat_map f (drop (i + 1) xs)), ap length (flat_map-at f xs i d inside), length-append (flat_map f (take i xs)) (f (get_or xs i d)))

-- pairs that are lent stand as they stand where they are kept
pub attributes-lent : (pairs : List (Bor Pair)) → flat_map (λ pair. attribute pair.now) pairs ≡ attributes (lent pairs)
attributes-lent [] = refl
attributes-lent (pair ∷ pairs) = ap (λ l. attribute pair.now ++ l) (attributes-lent pairs)
