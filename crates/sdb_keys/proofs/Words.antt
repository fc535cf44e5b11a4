-- The functions that read a line give what the grammar says, in both directions.
use Rattle.std.proofs.Common.{◌≡◌, ℕ, suc, ◌+◌, ◌<◌, ◌≤◌, Bool, true, false, not, ◌&&◌, ◌||◌, cond, List, [], ◌∷◌, ◌++◌, length, get_or, take, drop, Option, Some, None, ◌==◌, IsUtf8, All, refl, ap, sym, ◌∙◌, subst, ⊎_elim, arith, append_assoc, length-append, one-add}
use Rattle.std.specs.Prelude.{nat_lt, nat_le, position, is_some, option_map}
use Rattle.std.specs.Char.{is_ascii_alphanumeric, is_ascii_digit}
use Rattle.std.specs.List.{list_all, before_first, after_first, position_or_len}
use Rattle.std.specs.Str.{bytes_eq}
use Rattle.std.proofs.lemmas.Bool.{cond-true, cond-false, cases_eq, ne_eqb, lt-ltb, and_from, both_ways}
use Rattle.std.proofs.lemmas.Bool.Decides.{nat_tests}
use Rattle.std.proofs.lemmas.List.{drop_at, take_at}
use Rattle.std.proofs.lemmas.List.Elements.{All-nil, All-cons}
use Rattle.std.proofs.lemmas.List.Sums.{split_at_first, passes_at_first}
use Rattle.std.proofs.lemmas.Str.{IsUtf8-from_ascii}
use Rattle.std.proofs.lemmas.Str.Ascii.{IsAscii-from_all}
use Rattle.sdb_base.specs.Decimal.{decimal_of, is_decimal, value_after}
use Rattle.sdb_keys.specs.declared.keys.Key.{Key}
use Rattle.sdb_keys.specs.File.{is_word, is_secret_byte, SpellsKey}
use Rattle.sdb_keys.specs.Keys.{find_key, is_known}
use Rattle.sdb_keys.specs.Reading.{is_space, split_at_space, account_of, words_of, key_of}
use Rattle.sdb_base.proofs.Cases.{both}
use Rattle.sdb_base.proofs.OptionLemmas.{on_some, on_guard, on_other, on_none}

-- ---- spaces

pub some_space : (line : List ℕ) (at : ℕ) → Some at ≡ position is_space line → Some (take at line, drop (at + 1) line) ≡ split_at_space line
unfolding split_at_space
some_space line at e =
    let place = position_or_len is_space line in
    let h = on_guard (nat_lt place (length line)) place at (sym e) in
    ap (λ n. Some (take n line, drop (n + 1) line)) (sym h.1) ∙ sym (cond-true _ _ _ h.0)

pub no_space : (line : List ℕ) → None ≡ position is_space line → None ≡ split_at_space line
unfolding split_at_space
no_space line e =
    let place = position_or_len is_space line in
    sym (cond-false _ _ _ (on_none (nat_lt place (length line)) place (sym e)))

space_split : (line : List ℕ) (parts : List ℕ × List ℕ) → split_at_space line ≡ Some parts → line ≡ parts.0 ++ (32 ∷ parts.1)
unfolding split_at_space
space_split line parts e =
    let at = position_or_len is_space line in
    let h = on_guard (nat_lt at (length line)) (before_first is_space line, after_first is_space line) parts e in
    let inside : at < length line = grind (arith, nat_tests) in
    let passes = passes_at_first is_space line 0 inside in
    let space : get_or line at 0 ≡ 32 = grind (arith, nat_tests) in
    split_at_first is_space line 0 inside
    ∙ ap (λ b. before_first is_space line ++ (b ∷ after_first is_space line)) space
    ∙ ap (λ (x : List ℕ × List ℕ). x.0 ++ (32 ∷ x.1)) h.1

space_place : (test : ℕ → Bool) → test 32 ≡ false → (word rest : List ℕ) → list_all test word ≡ true → position_or_len is_space (word ++ (32 ∷ rest)) ≡ length word
space_place test not_space [] rest all = refl
space_place test not_space (b ∷ word) rest all =
    let h = both (test b) (list_all test word) all in
    let other : is_space b ≡ false = ⊎_elim (λ same. absurd (both_ways _ (ap test same ∙ not_space) h.0)) (λ apart. ne_eqb b 32 apart) (cases_eq b 32) in
    cond-true _ _ _ (ap not other) ∙ one-add _ ∙ ap suc (space_place test not_space word rest h.1)

space_again : (test : ℕ → Bool) → test 32 ≡ false → (word rest : List ℕ) → list_all test word ≡ true → split_at_space (word ++ (32 ∷ rest)) ≡ Some (word, rest)
unfolding split_at_space
space_again test not_space word rest all =
    let line = word ++ (32 ∷ rest) in
    let place = space_place test not_space word rest all in
    let front : take (length word) line ≡ word = take_at word (32 ∷ rest) (length word) refl in
    let back : drop (length word + 1) line ≡ rest = ap (drop (length word + 1)) (sym (append_assoc word (32 ∷ []) rest)) ∙ drop_at (word ++ 32 ∷ []) rest (length word + 1) (omega (arith, length-append word (32 ∷ []))) in
    let inside : nat_lt (length word) (length line) ≡ true = lt-ltb _ _ (omega (arith, length-append word (32 ∷ rest))) in
    ap (λ n. cond (nat_lt n (length line)) (Some (take n line, drop (n + 1) line)) None) place
    ∙ cond-true _ _ _ inside
    ∙ (λ i. Some (front i, back i))

-- ---- words

all_ascii : (test : ℕ → Bool) → ((b : ℕ) → test b ≡ true → b < 128) → (word : List ℕ) → list_all test word ≡ true → All (λ b. b < 128) word
all_ascii test small [] all = All-nil (λ b. b < 128)
all_ascii test small (b ∷ word) all =
    let h = both (test b) (list_all test word) all in
    All-cons (λ x. x < 128) b word (small b h.0) (all_ascii test small word h.1)

word_bytes : (test : ℕ → Bool) (word : List ℕ) → is_word test word ≡ true → list_all test word ≡ true
word_bytes test word e =
    (both (nat_le 1 (length word) && nat_le (length word) 128) (list_all test word) e).1

small_id : (b : ℕ) → is_ascii_alphanumeric b ≡ true → b < 128
small_id b e = grind (arith, nat_tests)

small_secret : (b : ℕ) → is_secret_byte b ≡ true → b < 128
small_secret b e = grind (arith, nat_tests)

pub id_is_text : (word : List ℕ) → is_word is_ascii_alphanumeric word ≡ true → IsUtf8 word
id_is_text word e =
    IsUtf8-from_ascii word (IsAscii-from_all word (all_ascii is_ascii_alphanumeric small_id word (word_bytes is_ascii_alphanumeric word e)))

pub secret_is_text : (word : List ℕ) → is_word is_secret_byte word ≡ true → IsUtf8 word
secret_is_text word e =
    IsUtf8-from_ascii word (IsAscii-from_all word (all_ascii is_secret_byte small_secret word (word_bytes is_secret_byte word e)))

-- ---- whole lines

digits_of_decimal : (number : List ℕ) (account : ℕ) → decimal_of number 16 ≡ Some account → list_all is_ascii_digit number ≡ true
digits_of_decimal number account e =
    let h = on_guard (is_decimal number && nat_le (value_after 0 number) 16) (value_after 0 number) account e in
    let d = both (is_decimal number) (nat_le (value_after 0 number) 16) h.0 in
    (both _ (list_all is_ascii_digit number) d.0).1

pub key_sound : (line : List ℕ) (key : Key) → key_of line ≡ Some key → SpellsKey line key
unfolding key_of account_of words_of
key_sound line key e =
    on_some (split_at_space line) _ key e (λ first is_first e1.
    on_some (account_of first.0) _ key e1 (λ account is_account e2.
    on_some (words_of first.1) _ key e2 (λ words is_words e3.
    on_some (decimal_of first.0 16) _ account is_account (λ number is_number e4.
    on_some (split_at_space first.1) _ words is_words (λ parts is_parts e5.
    let n = on_other (number == 0) number account e4 in
    let w = on_guard (is_word is_ascii_alphanumeric parts.0 && is_word is_secret_byte parts.1) parts words e5 in
    let b = both (is_word is_ascii_alphanumeric parts.0) (is_word is_secret_byte parts.1) w.0 in
    let counts : 1 ≤ number = grind (arith, nat_tests) in
    let found : Key = record { account = number; id = parts.0; secret = parts.1 } in
    let same : found ≡ key = (λ i. record { account = n.1 i; id = (w.1 i).0; secret = (w.1 i).1 }) ∙ cc in
    subst (SpellsKey line) same (record {
      number = first.0;
      spelled = space_split line first is_first ∙ ap (λ t. first.0 ++ (32 ∷ t)) (space_split first.1 parts is_parts);
      account = is_number;
      account_counts = counts;
      id = b.0;
      secret = b.1;
    }))))))

pub key_complete : (line : List ℕ) (key : Key) → SpellsKey line key → key_of line ≡ Some key
unfolding key_of account_of words_of
key_complete line key s =
    let id = word_bytes is_ascii_alphanumeric key.id s.id in
    let zero : (key.account == 0) ≡ false = grind (arith, nat_tests) in
    let words : (is_word is_ascii_alphanumeric key.id && is_word is_secret_byte key.secret) ≡ true = and_from _ _ s.id s.secret in
    rw (
      s.spelled,
      space_again is_ascii_digit refl s.number _ (digits_of_decimal s.number key.account s.account),
      s.account,
      zero,
      space_again is_ascii_alphanumeric refl key.id key.secret id,
      words,
    )
    refl

pub one_key : (line : List ℕ) (a b : Key) → SpellsKey line a → SpellsKey line b → a ≡ b
one_key line a b x y = let same : Some a ≡ Some b = sym (key_complete line a x) ∙ key_complete line b y in cc

-- ---- known ids

is_some-cond : {A : Type 0} (b : Bool) (x : A) (o : Option A) → is_some (cond b (Some x) o) ≡ (b || is_some o)
is_some-cond true x o = refl
is_some-cond false x o = refl

pub is_some-find_key : (keys : List Key) (id : List ℕ) → is_some (find_key keys id) ≡ is_known keys id
is_some-find_key [] id = refl
is_some-find_key (key ∷ keys) id =
    is_some-cond (bytes_eq id key.id) key (find_key keys id) ∙ ap (λ b. bytes_eq id key.id || b) (is_some-find_key keys id)

pub is_some-option_map : {A B : Type 0} (f : A → B) (o : Option A) → is_some (option_map f o) ≡ is_some o
is_some-option_map f None = refl
is_some-option_map f (Some x) = refl
