-- A head is read exactly: its numbers are those of the header that stands there.
use Rattle.std.proofs.Common.{◌≡◌, ◌≢◌, inl, inr, ℕ, ◌+◌, ◌-◌, ◌*◌, ◌/◌, ◌%◌, ◌^◌, ◌<◌, ◌≤◌, min, List, [], ◌∷◌, ◌++◌, length, take, drop, get_or, refl, sym, ◌∙◌, ap, append_assoc, arith, take-append-drop, get_or-take}
use Rattle.std.proofs.Math.Seq.{drop-append_seam}
use Rattle.std.proofs.lemmas.List.{length-append, take_all}
use Rattle.sdb_record.specs.Journals.{Group, IsClosed, HasGroups, header}
use Rattle.sdb_record.specs.Stands.{journal_of}
use Rattle.sdb_journal.specs.Heads.{NoFront, HasHead, IsBadHead}
use Rattle.sdb_journal.specs.Numbers.{number_in}

-- ---- the numbers
pub word_back : (n : ℕ) → n < 2 ^ 32 → n / 65536 / 256 * 16777216 + n / 65536 % 256 * 65536 + n % 65536 / 256 * 256 + n % 65536 % 256 ≡ n
word_back n fits = omega arith

halves : (n : ℕ) → n / 4294967296 * 4294967296 + n % 4294967296 ≡ n
halves n = omega arith

generation_back : (g f : ℕ) (rest : List ℕ) → g < 2 ^ 64 → number_in (header g f ++ rest) 9 ≡ g
unfolding header
generation_back g f rest fits =
    (λ k. word_back (g / 4294967296) (omega arith) k * 4294967296 + word_back (g % 4294967296) (omega arith) k) ∙ halves g

pub first_back : (g f : ℕ) (rest : List ℕ) → f < 2 ^ 64 → number_in (header g f ++ rest) 17 ≡ f
unfolding header
first_back g f rest fits =
    (λ k. word_back (f / 4294967296) (omega arith) k * 4294967296 + word_back (f % 4294967296) (omega arith) k) ∙ halves f

header_size : (g f : ℕ) → length (header g f) ≡ 25
unfolding header
header_size g f = refl

gate_back : (g f x : ℕ) → get_or (header g f ++ (x ∷ [])) 25 0 ≡ x
unfolding header
gate_back g f x = refl

one_left : (g f : ℕ) (rest front : List ℕ) → front ≡ header g f ++ rest → length front ≡ 26 → header g f ++ (get_or front 25 0 ∷ []) ≡ front
one_left g f [] front is size = absurd (omega (arith, size, ap length is, length-append (header g f) [], header_size g f))
one_left g f (x ∷ []) front is size = ap (λ b. header g f ++ (b ∷ [])) (ap (λ l. get_or l 25 0) is ∙ gate_back g f x) ∙ sym is
one_left g f (x ∷ y ∷ ys) front is size = absurd (omega (arith, size, ap length is, length-append (header g f) (x ∷ y ∷ ys), header_size g f))

-- a header that is there is the one of the numbers read
module _ (g f : ℕ) (rest front : List ℕ) (g_fits : g < 2 ^ 64) (f_fits : f < 2 ^ 64) (is : front ≡ header g f ++ rest) where
  pub same_generation : number_in front 9 ≡ g
  same_generation = ap (λ l. number_in l 9) is ∙ generation_back g f rest g_fits

  same_first : number_in front 17 ≡ f
  same_first = ap (λ l. number_in l 17) is ∙ first_back g f rest f_fits

  pub rendered : length front ≡ 26 → header (number_in front 9) (number_in front 17) ++ (get_or front 25 0 ∷ []) ≡ front
  rendered size = (λ k. header (same_generation k) (same_first k) ++ (get_or front 25 0 ∷ [])) ∙ one_left g f rest front is size

-- an open journal isn't closed
pub head_open : (g f : ℕ) (file : List ℕ) → HasHead g f file → IsClosed 26 file → ⊥
unfolding header
head_open g f file head (inl short) = omega (arith, head.long, short)
head_open g f file head (inr shut) = shut (ap (λ l. get_or l 0 0) head.front)

-- the head of a journal with groups has its numbers
pub head_one : (g f generation first : ℕ) (groups : List Group) (file : List ℕ) → HasHead g f file → g < 2 ^ 64 → f < 2 ^ 64 → HasGroups generation first groups file → (g ≡ generation) × (f ≡ first)
head_one g f generation first groups file head g_fits f_fits has = (
  sym (generation_back g f (drop 25 file) g_fits) ∙ ap (λ l. number_in l 9) (sym head.front ∙ has.stands.file_is) ∙ generation_back generation first _ has.generation_fits,
  sym (first_back g f (drop 25 file) f_fits) ∙ ap (λ l. number_in l 17) (sym head.front ∙ has.stands.file_is) ∙ first_back generation first _ has.first_fits,
)

pub other_bytes : (file : ℕ) (front : List ℕ) → length front ≡ 26 → header (number_in front 9) (number_in front 17) ++ (get_or front 25 0 ∷ []) ≢ front → NoFront file front
other_bytes file front size other g f rest g_fits f_fits own is = other (rendered g f rest front g_fits f_fits is size)

pub other_file : (file : ℕ) (front : List ℕ) → journal_of (number_in front 9) ≢ file → NoFront file front
other_file file front other g f rest g_fits f_fits own is = other (ap journal_of (same_generation g f rest front g_fits f_fits is) ∙ own)

-- ---- the file
front_taken : (g f : ℕ) (rest : List ℕ) → take 26 (header g f ++ rest) ≡ header g f ++ take 1 rest
unfolding header
front_taken g f rest = refl

module _ (seen buf : List ℕ) (n : ℕ) (size : length buf ≡ 26) (count : n ≡ min 26 (length seen - 0)) (bytes : take n buf ≡ take n (drop 0 seen)) where
  pub too_short : n < 26 → IsClosed 26 seen
  too_short short = inl (omega (arith, count, short))

  module _ (long : 26 ≤ n) where
    room : 26 ≤ length seen
    room = omega (arith, count, long)

    all_read : n ≡ 26
    all_read = omega (arith, count, long)

    whole : buf ≡ take 26 seen
    whole = sym (take_all 26 buf (omega (arith, size))) ∙ ap (λ m. take m buf) (sym all_read) ∙ bytes ∙ ap (λ m. take m seen) all_read

    first_same : get_or seen 0 0 ≡ get_or buf 0 0
    first_same = sym (get_or-take 26 seen 0 0 (omega arith)) ∙ ap (λ l. get_or l 0 0) (sym whole)

    pub not_open : get_or buf 0 0 ≢ 1 → IsClosed 26 seen
    not_open shut = inr (λ e. shut (sym first_same ∙ e))

    pub has_head : (g f x : ℕ) → buf ≡ header g f ++ (x ∷ []) → HasHead g f seen
    has_head g f x is = record { long = room; front = there ∙ ap (λ l. header g f ++ l) (sym behind) }
      where
        there : seen ≡ header g f ++ (x ∷ drop 26 seen)
        there = sym (take-append-drop 26 seen) ∙ ap (λ l. l ++ drop 26 seen) (sym whole ∙ is) ∙ append_assoc (header g f) (x ∷ []) (drop 26 seen)

        behind : drop 25 seen ≡ x ∷ drop 26 seen
        behind = (λ k. drop (sym (header_size g f) k) (there k)) ∙ drop-append_seam (header g f) (x ∷ drop 26 seen)

    pub bad_head : (file : ℕ) → get_or buf 0 0 ≡ 1 → NoFront file buf → IsBadHead file seen
    bad_head file gate none = record {
      long = room;
      gate = first_same ∙ gate;
      none = λ g f rest g_fits f_fits own is. none g f (take 1 rest) g_fits f_fits own (whole ∙ ap (λ l. take 26 l) is ∙ front_taken g f rest);
    }
