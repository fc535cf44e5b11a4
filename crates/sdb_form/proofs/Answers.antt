-- A form has one answer.
use Rattle.std.proofs.Common.{◌≡◌, ◌≢◌, ◌↔◌, ℕ, List, Result, Ok, Err, All, sym, subst, ap, ◌∙◌, refl}
use Rattle.std.proofs.lemmas.List.Elements.{All-get_or}
use Rattle.std.specs.Map.{keys_of}
use Rattle.form_urlencoded.specs.Form.{parse}
use Rattle.sdb_base.specs.Pairs.{HasDistinctNames}
use Rattle.sdb_form.specs.declared.fault.FormFault.{FormFault}
use Rattle.sdb_form.specs.declared.fault.FormFault.TheVariants as variant
use Rattle.sdb_form.specs.Answer.{IsAnswer}
use Rattle.sdb_form.specs.Form.{HasPairs, IsParams, IsFirst, IsSpoiled, IsRepeat, IsTextPair, IsFirstNotUtf8, IsFirstRepeated}
use Rattle.sdb_form.proofs.Decoding.{has_pairs, only_pairs}
use Rattle.sdb_form.proofs.Firsts.{one_first}
use Rattle.sdb_form.proofs.Repeats.{no_repeat}

same_pairs : (form : List ℕ) (a b : List (List ℕ × List ℕ)) → HasPairs form a → HasPairs form b → a ≡ b
same_pairs form a b x y = only_pairs form a x ∙ sym (only_pairs form b y)

pub one_params : (form : List ℕ) (a b : List (List ℕ × List ℕ)) → IsParams form a → IsParams form b → a ≡ b
one_params form a b x y = same_pairs form a b x.pairs y.pairs

no_spoiled : (form : List ℕ) (pairs : List (List ℕ × List ℕ)) (k : ℕ) → HasPairs form pairs → All IsTextPair pairs → IsFirstNotUtf8 form k → ⊥
no_spoiled form pairs k are texts first =
    let same = same_pairs form first.pairs pairs first.are_pairs are in
    let spoiled = subst (λ ps. IsSpoiled ps k) same first.first.holds in
    spoiled.1 (All-get_or IsTextPair pairs k _ spoiled.0 texts)

none_repeated : (form : List ℕ) (pairs : List (List ℕ × List ℕ)) (k : ℕ) → IsParams form pairs → IsFirstRepeated form k → ⊥
none_repeated form pairs k params first =
    let same = same_pairs form first.pairs pairs first.are_pairs params.pairs in
    no_repeat (keys_of pairs) k params.distinct (subst (λ ps. IsRepeat (keys_of ps) k) same first.first.holds)

one_spoiled : (form : List ℕ) (m n : ℕ) → IsFirstNotUtf8 form m → IsFirstNotUtf8 form n → m ≡ n
one_spoiled form m n a b =
    let same = same_pairs form a.pairs b.pairs a.are_pairs b.are_pairs in
    one_first (IsSpoiled b.pairs) m n (subst (λ ps. IsFirst (IsSpoiled ps) m) same a.first) b.first

one_repeated : (form : List ℕ) (m n : ℕ) → IsFirstRepeated form m → IsFirstRepeated form n → m ≡ n
one_repeated form m n a b =
    let same = same_pairs form a.pairs b.pairs a.are_pairs b.are_pairs in
    one_first (IsRepeat (keys_of b.pairs)) m n (subst (λ ps. IsFirst (IsRepeat (keys_of ps)) m) same a.first) b.first

abbrev pub Answer : Type 0
Answer = Result (List (List ℕ × List ℕ)) FormFault

abbrev pub no_memory : Answer
no_memory = Err variant.OutOfMemory

pub one_answer : (form : List ℕ) (a b : Answer) → IsAnswer form a → IsAnswer form b → a ≢ no_memory → b ≢ no_memory → a ≡ b
one_answer form (Ok a) (Ok b) x y _ _ = ap Ok (one_params form a b x y)
one_answer form (Ok a) (Err (variant.NotUtf8 n)) x y _ _ = absurd (no_spoiled form a n x.pairs x.texts y)
one_answer form (Ok a) (Err (variant.Repeated n)) x y _ _ = absurd (none_repeated form a n x y)
one_answer form (Err (variant.NotUtf8 n)) (Ok b) x y _ _ = absurd (no_spoiled form b n y.pairs y.texts x)
one_answer form (Err (variant.Repeated n)) (Ok b) x y _ _ = absurd (none_repeated form b n y x)
one_answer form (Err (variant.NotUtf8 m)) (Err (variant.NotUtf8 n)) x y _ _ = ap (λ k. Err (variant.NotUtf8 k)) (one_spoiled form m n x y)
one_answer form (Err (variant.NotUtf8 m)) (Err (variant.Repeated n)) x y _ _ = absurd (no_spoiled form y.pairs m y.are_pairs y.texts x)
one_answer form (Err (variant.Repeated m)) (Err (variant.NotUtf8 n)) x y _ _ = absurd (no_spoiled form x.pairs n x.are_pairs x.texts y)
one_answer form (Err (variant.Repeated m)) (Err (variant.Repeated n)) x y _ _ = ap (λ k. Err (variant.Repeated k)) (one_repeated form m n x y)
one_answer form (Err variant.OutOfMemory) b x y told _ = absurd (told refl)
one_answer form (Ok a) (Err variant.OutOfMemory) x y _ told = absurd (told refl)
one_answer form (Err (variant.NotUtf8 m)) (Err variant.OutOfMemory) x y _ told = absurd (told refl)
one_answer form (Err (variant.Repeated m)) (Err variant.OutOfMemory) x y _ told = absurd (told refl)

-- memory aside, the answer is the one that the form has
pub exactly : (form : List ℕ) (a b : Answer) → IsAnswer form a → b ≢ no_memory → a ≢ no_memory → (a ≡ b) ↔ IsAnswer form b
exactly form a b x other told =
    (λ same. subst (IsAnswer form) same x, λ y. one_answer form a b x y told other)

-- what the parser's pairs say of the form
pub are_params : (form : List ℕ) (pairs : List (List ℕ × List ℕ)) → pairs ≡ parse form → All IsTextPair pairs → HasDistinctNames pairs → IsParams form pairs
are_params form pairs same texts distinct = record {
  pairs = subst (HasPairs form) (sym same) (has_pairs form);
  texts = texts;
  distinct = distinct;
}

pub is_repeated : (form : List ℕ) (pairs : List (List ℕ × List ℕ)) (k : ℕ) → pairs ≡ parse form → All IsTextPair pairs → IsFirst (IsRepeat (keys_of pairs)) k → IsFirstRepeated form k
is_repeated form pairs k same texts first = record {
  pairs = pairs;
  are_pairs = subst (HasPairs form) (sym same) (has_pairs form);
  texts = texts;
  first = first;
}

pub is_not_utf8 : (form : List ℕ) (k : ℕ) → IsFirst (IsSpoiled (parse form)) k → IsFirstNotUtf8 form k
is_not_utf8 form k first =
    record { pairs = parse form; are_pairs = has_pairs form; first = first }
