-- A text is cut in one way, and a cutting goes on from any of its places.
use Rattle.std.proofs.Common.{◌≡◌, ℕ, ◌+◌, ◌≤◌, List, [], ◌∷◌, ◌++◌, length, drop, Ok, Err, IfOk, refl, sym, ap, ◌∙◌, subst, arith, drop-drop, drop_of_length-le, append_assoc, append-nil, length-append, length-drop}
use Rattle.sdb_lex.specs.declared.fault.LexFault.TheVariants.{BadByte, Unclosed}
use Rattle.sdb_lex.specs.declared.front.Front.{Front}
use Rattle.sdb_lex.specs.declared.front.Front.TheVariants as front
use Rattle.sdb_lex.specs.declared.token.Kind.{Kind}
use Rattle.sdb_lex.specs.declared.token.Token.{Token}
use Rattle.sdb_lex.specs.Fronts.{front_of}
use Rattle.sdb_lex.specs.Tokens.{IsToken, a_word, digits, quoted, ticked, one_sign, ordering, with_equals, Begins, nothing, separated, token, spoiled, empty_name, unknown, lone_not, unclosed, Cut, with_first, AreSpans, Cuts, at_end, past_blank, past_token, bad_byte, left_open}
use Rattle.sdb_lex.proofs.FrontLemmas.{front_is, front_only}

-- how a cutting goes on after what stands at the front
abbrev GoesOn : Front → ℕ → List ℕ → Cut → Type 0
GoesOn front.Nothing n text cut = cut ≡ Ok []
GoesOn front.Blank n text cut = Cuts (n + 1) (drop 1 text) cut
GoesOn (front.Piece k len) n text cut = (more : Cut) × Cuts (n + len) (drop len text) more × (cut ≡ with_first (record { kind = k; from = n; upto = n + len }) more)
GoesOn (front.Bad on) n text cut = cut ≡ Err (BadByte (n + on))
GoesOn front.Unclosed n text cut = cut ≡ Err (Unclosed n)

goes_on : (n : ℕ) (text : List ℕ) (cut : Cut) → Cuts n text cut → GoesOn (front_of text) n text cut
goes_on _ _ _ (at_end n text is) = subst (λ f. GoesOn f n text (Ok [])) (front_only text front.Nothing is) refl
goes_on _ _ _ (past_blank n text cut is rest) = subst (λ f. GoesOn f n text cut) (front_only text front.Blank is) rest
goes_on _ _ _ (past_token n text cut k len is rest) =
    subst (λ f. GoesOn f n text (with_first (record { kind = k; from = n; upto = n + len }) cut)) (front_only text (front.Piece k len) is) (cut, rest, refl)
goes_on _ _ _ (bad_byte n text on is) = subst (λ f. GoesOn f n text (Err (BadByte (n + on)))) (front_only text (front.Bad on) is) refl
goes_on _ _ _ (left_open n text is) = subst (λ f. GoesOn f n text (Err (Unclosed n))) (front_only text front.Unclosed is) refl

-- the same, at the front that the relation names
goes_on_at : (f : Front) (n : ℕ) (text : List ℕ) (cut : Cut) → Begins text f → Cuts n text cut → GoesOn f n text cut
goes_on_at f n text cut is other = subst (λ g. GoesOn g n text cut) (sym (front_only text f is)) (goes_on n text cut other)

pub one_cutting : (n : ℕ) (text : List ℕ) (one other : Cut) → Cuts n text one → Cuts n text other → one ≡ other
one_cutting _ _ _ other (at_end n text is) so = sym (goes_on_at front.Nothing n text other is so)
one_cutting _ _ _ other (past_blank n text cut is rest) so = one_cutting (n + 1) (drop 1 text) cut other rest (goes_on_at front.Blank n text other is so)
one_cutting _ _ _ other (past_token n text cut k len is rest) so =
    let on = goes_on_at (front.Piece k len) n text other is so in
    ap (with_first (record { kind = k; from = n; upto = n + len })) (one_cutting (n + len) (drop len text) cut on.0 rest on.1) ∙ sym on.2
one_cutting _ _ _ other (bad_byte n text on is) so = sym (goes_on_at (front.Bad on) n text other is so)
one_cutting _ _ _ other (left_open n text is) so = sym (goes_on_at front.Unclosed n text other is so)

-- ---- the loop

-- tokens before the others
abbrev pub with_tokens : List Token → Cut → Cut
with_tokens ts (Ok more) = Ok (ts ++ more)
with_tokens ts (Err fault) = Err fault

-- whatever cuts the text from `at` on cuts the whole text, with the tokens before it
pub record Going (text : List ℕ) (at : ℕ) (tokens : List Token) : Type 0 where
  pub within : at ≤ length text
  pub goes : (cut : Cut) → Cuts at (drop at text) cut → Cuts 0 text (with_tokens tokens cut)

none_before : (cut : Cut) → with_tokens [] cut ≡ cut
none_before (Ok more) = refl
none_before (Err fault) = refl

one_before : (ts : List Token) (t : Token) (cut : Cut) → with_tokens ts (with_first t cut) ≡ with_tokens (ts ++ t ∷ []) cut
one_before ts t (Ok more) = ap Ok (sym (append_assoc ts (t ∷ []) more))
one_before ts t (Err fault) = refl

pub begun : (text : List ℕ) → Going text 0 []
begun text = record { within = omega arith; goes = λ cut h. subst (Cuts 0 text) (sym (none_before cut)) h }

module _ (text : List ℕ) (at : ℕ) (tokens : List Token) (g : Going text at tokens) (rest : List ℕ) (is_rest : rest ≡ drop at text) where
  here : Begins (drop at text) (front_of rest)
  here = subst (λ l. Begins (drop at text) (front_of l)) (sym is_rest) (front_is (drop at text))

  front_at : (f : Front) → f ≡ front_of rest → Begins (drop at text) f
  front_at f e = subst (Begins (drop at text)) (sym e) here

  pub past_a_blank : front.Blank ≡ front_of rest → at + 1 ≤ length text → Going text (at + 1) tokens
  past_a_blank e within = record {
    within = within;
    goes = λ cut h. g.goes cut (past_blank at (drop at text) cut (front_at front.Blank e) (subst (λ l. Cuts (at + 1) l cut) (sym (drop-drop 1 at text)) h));
  }

  pub past_a_token : (k : Kind) (len : ℕ) → front.Piece k len ≡ front_of rest → at + len ≤ length text → Going text (at + len) (tokens ++ record { kind = k; from = at; upto = at + len } ∷ [])
  past_a_token k len e within = record {
    within = within;
    goes = λ cut h. subst (Cuts 0 text) (one_before tokens (record { kind = k; from = at; upto = at + len }) cut)
        (g.goes (with_first (record { kind = k; from = at; upto = at + len }) cut)
        (past_token at (drop at text) cut k len (front_at (front.Piece k len) e) (subst (λ l. Cuts (at + len) l cut) (sym (drop-drop len at text)) h)));
  }

  pub at_bad_byte : (on : ℕ) → front.Bad on ≡ front_of rest → Cuts 0 text (Err (BadByte (at + on)))
  at_bad_byte on e = g.goes (Err (BadByte (at + on))) (bad_byte at (drop at text) on (front_at (front.Bad on) e))

  pub at_open_sign : front.Unclosed ≡ front_of rest → Cuts 0 text (Err (Unclosed at))
  at_open_sign e = g.goes (Err (Unclosed at)) (left_open at (drop at text) (front_at front.Unclosed e))

  pub at_nothing : front.Nothing ≡ front_of rest → Cuts 0 text (Ok tokens)
  at_nothing e = subst (λ ts. Cuts 0 text (Ok ts)) (append-nil tokens) (g.goes (Ok []) (at_end at (drop at text) (front_at front.Nothing e)))

pub ended : (text : List ℕ) (at : ℕ) (tokens : List Token) → Going text at tokens → length text ≤ at → Cuts 0 text (Ok tokens)
ended text at tokens g over = at_nothing text at tokens g [] (sym (nothing_left text at over)) refl
  where
    nothing_left : (l : List ℕ) (n : ℕ) → length l ≤ n → drop n l ≡ []
    nothing_left l n h = drop_of_length-le l h

-- ---- lengths

-- the length of a token, or the place of a bad byte, against the text
abbrev FitsIn : List ℕ → Front → Type 0
FitsIn text front.Nothing = Unit {0}
FitsIn text front.Blank = 1 ≤ length text
FitsIn text (front.Piece k len) = (1 ≤ len) × (len ≤ length text)
FitsIn text (front.Bad on) = on ≤ length text
FitsIn text front.Unclosed = Unit {0}

some_bytes : (k : Kind) (piece rest : List ℕ) → IsToken k piece rest → 1 ≤ length piece
some_bytes _ _ _ (a_word b bs rest nd all stops) = omega arith
some_bytes _ _ _ (digits b bs rest all stops) = omega arith
some_bytes _ _ _ (quoted s inner rest q stops) = omega arith
some_bytes _ _ _ (ticked b inner rest stops) = omega arith
some_bytes _ _ _ (one_sign b rest p) = omega arith
some_bytes _ _ _ (ordering b rest o stops) = omega arith
some_bytes _ _ _ (with_equals b rest c) = omega arith

fits_in : (text : List ℕ) (f : Front) → Begins text f → FitsIn text f
fits_in _ _ nothing = tt
fits_in _ _ (separated b rest t) = omega arith
fits_in _ _ (token k piece rest is text e) =
    let some = some_bytes k piece rest is in
    let size : length text ≡ length piece + length rest = ap length e ∙ length-append piece rest in
    (some, omega (arith, size))
fits_in _ _ (spoiled b bs rest all stops spoils text e) =
    let size : length text ≡ length (b ∷ bs) + length rest = ap length e ∙ length-append (b ∷ bs) rest in
    omega (arith, size)
fits_in _ _ (empty_name rest stops) = omega arith
fits_in _ _ (unknown b rest h) = omega arith
fits_in _ _ (lone_not rest stops) = omega arith
fits_in _ _ (unclosed s inner is text e) = tt

-- a token is no longer than the text and not empty
pub piece_within : (text : List ℕ) (k : Kind) (len : ℕ) → front.Piece k len ≡ front_of text → (1 ≤ len) × (len ≤ length text)
piece_within text k len e = fits_in text (front.Piece k len) (subst (Begins text) (sym e) (front_is text))

-- a bad byte stands within the text
pub bad_within : (text : List ℕ) (on : ℕ) → front.Bad on ≡ front_of text → on ≤ length text
bad_within text on e = fits_in text (front.Bad on) (subst (Begins text) (sym e) (front_is text))

-- ---- spans

-- spans above a higher place are above a lower one
lower : (low at high : ℕ) (ts : List Token) → low ≤ at → AreSpans at high ts → AreSpans low high ts
lower low at high [] le h = omega (arith, h)
lower low at high (t ∷ ts) le h = (omega (arith, h.0), h.1, h.2)

first_span : (n len high : ℕ) (k : Kind) (cut : Cut) → 1 ≤ len → IfOk cut (AreSpans (n + len) high) → IfOk (with_first (record { kind = k; from = n; upto = n + len }) cut) (AreSpans n high)
first_span n len high k (Ok ts) some h = (omega arith, omega arith, h)
first_span n len high k (Err fault) some h = tt

lower_if : (low at high : ℕ) (cut : Cut) → low ≤ at → IfOk cut (AreSpans at high) → IfOk cut (AreSpans low high)
lower_if low at high (Ok ts) le h = lower low at high ts le h
lower_if low at high (Err fault) le h = tt

pub spans_rise : (n : ℕ) (text : List ℕ) (cut : Cut) → Cuts n text cut → IfOk cut (AreSpans n (n + length text))
spans_rise _ _ _ (at_end n text is) = omega arith
spans_rise _ _ _ (past_blank n text cut is rest) =
    let some : 1 ≤ length text = fits_in text front.Blank is in
    let high : n + 1 + length (drop 1 text) ≡ n + length text = omega (arith, length-drop 1 text) in
    lower_if n (n + 1) (n + length text) cut (omega arith) (subst (λ m. IfOk cut (AreSpans (n + 1) m)) high (spans_rise (n + 1) (drop 1 text) cut rest))
spans_rise _ _ _ (past_token n text cut k len is rest) =
    let fits = fits_in text (front.Piece k len) is in
    let high : n + len + length (drop len text) ≡ n + length text = omega (arith, length-drop len text, fits.1) in
    first_span n len (n + length text) k cut fits.0 (subst (λ m. IfOk cut (AreSpans (n + len) m)) high (spans_rise (n + len) (drop len text) cut rest))
spans_rise _ _ _ (bad_byte n text on is) = tt
spans_rise _ _ _ (left_open n text is) = tt
