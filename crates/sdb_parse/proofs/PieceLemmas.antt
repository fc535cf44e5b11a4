-- Each token that a text is cut into is a text by itself.
use Rattle.std.proofs.Common.{◌≡◌, ℕ, zero, suc, ◌+◌, ◌-◌, ◌<◌, ◌≤◌, Bool, true, false, ◌&&◌, List, [], ◌∷◌, ◌++◌, length, take, drop, get_or, All, IsUtf8, Ok, Err, IfOk, refl, sym, ap, subst, ◌∙◌, arith, append_assoc, length-append, length-take, take-append-drop}
use Rattle.std.proofs.Math.Seq.{take-append_seam}
use Rattle.std.specs.List.{list_all}
use Rattle.std.specs.Char.{is_ascii_digit}
use Rattle.std.specs.Str.{IsAscii, IsCharBoundary}
use Rattle.std.proofs.lemmas.Bool.{false≢true}
use Rattle.std.proofs.lemmas.Bool.Decides.{nat_tests}
use Rattle.std.proofs.lemmas.Str.{IsUtf8-append, IsUtf8-between, IsUtf8-from_ascii, IsCharBoundary-before_ascii, IsCharBoundary-after_ascii}
use Rattle.sdb_lex.specs.Bytes.{word, quote, plain, order, comparing}
use Rattle.sdb_lex.specs.declared.front.Front.TheVariants as front
use Rattle.sdb_lex.specs.declared.token.Kind.{Kind}
use Rattle.sdb_lex.specs.declared.token.Token.{Token}
use Rattle.sdb_lex.specs.Tokens.{doubled, separated, IsToken, a_word, digits, quoted, ticked, one_sign, ordering, with_equals, Begins, token, Cut, with_first, Cuts, at_end, past_blank, past_token, bad_byte, left_open}
use Rattle.sdb_parse.specs.Terms.{IsPiece, MayEnclose}

-- ---- bytes of tokens

low_digit : (b : ℕ) → is_ascii_digit b ≡ true → b < 128
low_digit b e = grind (arith, nat_tests)

low_word : (b : ℕ) → word b ≡ true → b < 128
low_word b e = grind (arith, nat_tests)

low_quote : (b : ℕ) → quote b ≡ true → b < 128
low_quote b e = grind (arith, nat_tests)

low_plain : (b : ℕ) → plain b ≡ true → b < 128
low_plain b e = grind (arith, nat_tests)

low_order : (b : ℕ) → order b ≡ true → b < 128
low_order b e = grind (arith, nat_tests)

low_comparing : (b : ℕ) → comparing b ≡ true → b < 128
low_comparing b e = grind (arith, nat_tests)

first_and : (a b : Bool) → (a && b) ≡ true → (a ≡ true) × (b ≡ true)
first_and true true e = (refl, refl)
first_and true false e = absurd (false≢true e)
first_and false b e = absurd (false≢true e)

ascii_all : (p : ℕ → Bool) → ((b : ℕ) → p b ≡ true → b < 128) → (bs : List ℕ) → list_all p bs ≡ true → IsAscii bs
ascii_all p low [] e k = omega arith
ascii_all p low (b ∷ bs) e zero = low b (first_and (p b) (list_all p bs) e).0
ascii_all p low (b ∷ bs) e (suc k) = ascii_all p low bs (first_and (p b) (list_all p bs) e).1 k

one_ascii : (b : ℕ) → b < 128 → IsAscii (b ∷ [])
one_ascii b h zero = h
one_ascii b h (suc k) = omega arith

two_ascii : (b c : ℕ) → b < 128 → c < 128 → IsAscii (b ∷ c ∷ [])
two_ascii b c h k zero = h
two_ascii b c h k (suc zero) = k
two_ascii b c h k (suc (suc n)) = omega arith

-- ---- a piece between two others

at_seam : (a : List ℕ) (s : ℕ) (bs : List ℕ) → get_or (a ++ s ∷ bs) (length a) 0 ≡ s
at_seam [] s bs = refl
at_seam (x ∷ a) s bs = at_seam a s bs

past : (a b : List ℕ) → drop (length a) (a ++ b) ≡ b
past [] b = refl
past (x ∷ a) b = past a b

-- what stands between two ASCII bytes of a text is a text
enclosed_utf8 : (before inner rest : List ℕ) (s : ℕ) → s < 128 → IsUtf8 (before ++ s ∷ (inner ++ s ∷ rest)) → IsUtf8 inner
enclosed_utf8 before inner rest s low utf8 =
    let whole : List ℕ = before ++ s ∷ (inner ++ s ∷ rest) in
    let split : whole ≡ (before ++ s ∷ inner) ++ s ∷ rest = sym (append_assoc before (s ∷ inner) (s ∷ rest)) in
    let size : length whole ≡ length before + (1 + (length inner + (1 + length rest))) = omega (arith, length-append before (s ∷ (inner ++ s ∷ rest)), length-append inner (s ∷ rest)) in
    let long : length (before ++ s ∷ inner) ≡ length before + 1 + length inner = omega (arith, length-append before (s ∷ inner)) in
    let opens : get_or whole (length before) 0 ≡ s = at_seam before s (inner ++ s ∷ rest) in
    let closes : get_or whole (length before + 1 + length inner) 0 ≡ s = ap (λ n. get_or whole n 0) (sym long) ∙ (ap (λ l. get_or l (length (before ++ s ∷ inner)) 0) split ∙ at_seam (before ++ s ∷ inner) s rest) in
    let first : IsCharBoundary whole (length before + 1) = IsCharBoundary-after_ascii whole (length before) utf8 (omega arith) (omega arith) in
    let last : IsCharBoundary whole (length before + 1 + length inner) = IsCharBoundary-before_ascii whole (length before + 1 + length inner) (omega arith) (omega arith) in
    let part = IsUtf8-between whole (length before + 1) (length before + 1 + length inner) utf8 (omega arith) first last in
    let count : length before + 1 + length inner - (length before + 1) ≡ length inner = omega arith in
    let tail : drop (length before + 1) whole ≡ inner ++ s ∷ rest =
    ap (λ l. drop (length before + 1) l) (sym (append_assoc before (s ∷ []) (inner ++ s ∷ rest)))
    ∙ (ap (λ n. drop n ((before ++ s ∷ []) ++ (inner ++ s ∷ rest))) (let n : length before + 1 ≡ length (before ++ s ∷ []) = omega (arith, length-append before (s ∷ [])) in n) ∙ past (before ++ s ∷ []) (inner ++ s ∷ rest)) in
    subst IsUtf8 (ap (λ n. take n (drop (length before + 1) whole)) count ∙ (ap (take (length inner)) tail ∙ take-append_seam inner (s ∷ rest))) part

-- the text of two signs and what they enclose
signed_utf8 : (inner : List ℕ) (s : ℕ) → s < 128 → IsUtf8 inner → IsUtf8 (s ∷ (inner ++ s ∷ []))
signed_utf8 inner s low utf8 =
    IsUtf8-append (s ∷ []) (inner ++ s ∷ []) (IsUtf8-from_ascii (s ∷ []) (one_ascii s low)) (IsUtf8-append inner (s ∷ []) utf8 (IsUtf8-from_ascii (s ∷ []) (one_ascii s low)))

enclosed : (before rest inner : List ℕ) (s : ℕ) → s < 128 → IsUtf8 (before ++ ((s ∷ (inner ++ s ∷ [])) ++ rest)) → IsUtf8 inner
enclosed before rest inner s low utf8 =
    enclosed_utf8 before inner rest s low (subst (λ l. IsUtf8 (before ++ s ∷ l)) (append_assoc inner (s ∷ []) rest) utf8)

lawful : (before : List ℕ) (k : Kind) (piece rest : List ℕ) → IsToken k piece rest → IsUtf8 (before ++ (piece ++ rest)) → IsUtf8 piece × MayEnclose k piece
lawful before _ _ _ (a_word b bs rest nd all stops) utf8 = (IsUtf8-from_ascii (b ∷ bs) (ascii_all word low_word (b ∷ bs) all), tt)
lawful before _ _ _ (digits b bs rest all stops) utf8 = (IsUtf8-from_ascii (b ∷ bs) (ascii_all is_ascii_digit low_digit (b ∷ bs) all), tt)
lawful before _ _ _ (quoted s inner rest q stops) utf8 =
    let text = enclosed before rest (doubled s inner) s (low_quote s q) utf8 in
    (signed_utf8 (doubled s inner) s (low_quote s q) text, record { sign = s; inner = doubled s inner; is = refl; ascii = low_quote s q; utf8 = text })
lawful before _ _ _ (ticked b inner rest stops) utf8 =
    let low : 96 < 128 = omega arith in
    let text = enclosed before rest (doubled 96 (b ∷ inner)) 96 low utf8 in
    (signed_utf8 (doubled 96 (b ∷ inner)) 96 low text, record { sign = 96; inner = doubled 96 (b ∷ inner); is = refl; ascii = low; utf8 = text })
lawful before _ _ _ (one_sign b rest p) utf8 = (IsUtf8-from_ascii (b ∷ []) (one_ascii b (low_plain b p)), tt)
lawful before _ _ _ (ordering b rest o stops) utf8 = (IsUtf8-from_ascii (b ∷ []) (one_ascii b (low_order b o)), tt)
lawful before _ _ _ (with_equals b rest c) utf8 = (IsUtf8-from_ascii (b ∷ 61 ∷ []) (two_ascii b 61 (low_comparing b c) (omega arith)), tt)

-- ---- tokens

pub blank_within : (rest : List ℕ) → Begins rest front.Blank → 1 ≤ length rest
blank_within _ (separated b rest is) = omega arith

pub token_within : (rest : List ℕ) (k : Kind) (len : ℕ) → Begins rest (front.Piece k len) → len ≤ length rest
token_within _ _ _ (token k piece after is rest split) = omega (arith, ap length split, length-append piece after)

-- the text cut further on
pub moved : (text : List ℕ) (n len : ℕ) (before rest : List ℕ) → text ≡ before ++ rest → n ≡ length before → len ≤ length rest → (text ≡ (before ++ take len rest) ++ drop len rest) × (n + len ≡ length (before ++ take len rest))
moved text n len before rest e place within = (
  e ∙ (ap (λ l. before ++ l) (sym (take-append-drop len rest)) ∙ sym (append_assoc before (take len rest) (drop len rest))),
  omega (arith, length-append before (take len rest), length-take len rest),
)

module _ (text : List ℕ) (utf8 : IsUtf8 text) where
  cut_first : (n : ℕ) (before : List ℕ) (k : Kind) (piece rest : List ℕ) → text ≡ before ++ (piece ++ rest) → n ≡ length before → IsToken k piece rest →
      IsPiece text (record { kind = k; from = n; upto = n + length piece })
  cut_first n before k piece rest e place is =
      let size : length text ≡ length before + (length piece + length rest) = omega (arith, ap length e, length-append before (piece ++ rest), length-append piece rest) in
      let tail : drop n text ≡ piece ++ rest = ap (λ l. drop n l) e ∙ (ap (λ m. drop m (before ++ (piece ++ rest))) place ∙ past before (piece ++ rest)) in
      let count : n + length piece - n ≡ length piece = omega arith in
      let same : take (n + length piece - n) (drop n text) ≡ piece = ap (λ m. take m (drop n text)) count ∙ (ap (take (length piece)) tail ∙ take-append_seam piece rest) in
      let fine = lawful before k piece rest is (subst IsUtf8 e utf8) in
      record {
        rising = omega arith;
        within = omega arith;
        utf8 = subst IsUtf8 (sym same) fine.0;
        enclosed = subst (MayEnclose k) (sym same) fine.1;
      }

  all_cons : (t : Token) (ts : List Token) → IsPiece text t → All (IsPiece text) ts → All (IsPiece text) (t ∷ ts)
  all_cons t ts one all zero d h = one
  all_cons t ts one all (suc k) d h = all k d (omega arith)

  with_all : (t : Token) (cut : Cut) → IsPiece text t → IfOk cut (All (IsPiece text)) → IfOk (with_first t cut) (All (IsPiece text))
  with_all t (Ok ts) one all = all_cons t ts one all
  with_all t (Err fault) one all = tt

  front_split : (n : ℕ) (before rest : List ℕ) (k : Kind) (len : ℕ) → text ≡ before ++ rest → n ≡ length before → Begins rest (front.Piece k len) → IsPiece text (record { kind = k; from = n; upto = n + len })
  front_split n before _ _ _ e place (token k piece after is rest split) = cut_first n before k piece after (e ∙ ap (λ l. before ++ l) split) place is

  pieces : (n : ℕ) (rest : List ℕ) (cut : Cut) → Cuts n rest cut → (before : List ℕ) → text ≡ before ++ rest → n ≡ length before → IfOk cut (All (IsPiece text))
  pieces _ _ _ (at_end n rest is) before e place = λ k d h. absurd (let none : k < 0 = h in omega arith)
  pieces _ _ _ (past_blank n rest cut is on) before e place =
      let m = moved text n 1 before rest e place (blank_within rest is) in
      pieces (n + 1) (drop 1 rest) cut on (before ++ take 1 rest) m.0 m.1
  pieces _ _ _ (past_token n rest cut k len is on) before e place =
      with_all (record { kind = k; from = n; upto = n + len }) cut (front_split n before rest k len e place is)
      (let m = moved text n len before rest e place (token_within rest k len is) in pieces (n + len) (drop len rest) cut on (before ++ take len rest) m.0 m.1)
  pieces _ _ _ (bad_byte n rest at is) before e place = tt
  pieces _ _ _ (left_open n rest is) before e place = tt

pub are_pieces : (text : List ℕ) (tokens : List Token) → IsUtf8 text → Cuts 0 text (Ok tokens) → All (IsPiece text) tokens
are_pieces text tokens utf8 cuts = pieces text utf8 0 text (Ok tokens) cuts [] refl refl
