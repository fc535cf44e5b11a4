-- A text that is printed token by token is cut into these tokens.
use Rattle.std.proofs.Common.{◌≡◌, ℕ, ◌+◌, ◌-◌, Bool, true, false, ◌&&◌, ◌==◌, List, [], ◌∷◌, ◌++◌, length, take, drop, if◌then◌else◌, Ok, refl, sym, ap, ap₂, subst, ◌∙◌, arith, append_assoc, length-append}
use Rattle.std.proofs.Math.Seq.{take-append_seam, drop-append_seam}
use Rattle.std.specs.List.{list_all}
use Rattle.std.specs.Char.{is_ascii_digit}
use Rattle.std.proofs.lemmas.Bool.Decides.{nat_tests}
use Rattle.sdb_lex.specs.Bytes.{begins, blank, comparing, order, plain, word}
use Rattle.sdb_lex.specs.declared.front.Front.TheVariants as front
use Rattle.sdb_lex.specs.declared.token.Kind.{Kind}
use Rattle.sdb_lex.specs.declared.token.Kind.TheVariants as kind
use Rattle.sdb_lex.specs.declared.token.Token.{Token}
use Rattle.sdb_lex.specs.Tokens.{doubled, nothing, separated, IsToken, a_word, digits, quoted, ticked, one_sign, ordering, with_equals, Begins, token, Cuts, at_end, past_blank, past_token}
use Rattle.sdb_parse.specs.declared.sign.Sign.{Sign}
use Rattle.sdb_parse.specs.declared.term.Term.{Term}
use Rattle.sdb_parse.specs.Signs.{sign_of}
use Rattle.sdb_parse.specs.Terms.{inside, piece_of, plain_term, single, term_for, term_of, terms_of}
use Rattle.sdb_parse.proofs.TermLemmas.{inside_is}

-- the text is tokens with spaces between them, and these are the terms of its tokens
pub data Lexed : List ℕ → List Term → Type 0 where
  nothing_left : Lexed [] []
  after_space : (rest : List ℕ) (ts : List Term) → Lexed rest ts → Lexed (32 ∷ rest) ts
  after_token : (k : Kind) (piece rest : List ℕ) (ts : List Term) → IsToken k piece rest → Lexed rest ts → Lexed (piece ++ rest) (term_for k piece ∷ ts)

-- nothing, or a space first
pub data Spaced : List ℕ → Type 0 where
  no_more : Spaced []
  space : (rest : List ℕ) → Spaced (32 ∷ rest)

pub stops : (p : ℕ → Bool) → p 32 ≡ false → (rest : List ℕ) → Spaced rest → begins p rest ≡ false
stops p h _ no_more = refl
stops p h _ (space rest) = h

-- ---- the cutting

pub piece_is : (text before piece rest : List ℕ) (k : Kind) (n : ℕ) → text ≡ before ++ (piece ++ rest) → n ≡ length before →
    piece_of text (record { kind = k; from = n; upto = n + length piece }) ≡ piece
piece_is text before piece rest k n e place =
    let count : n + length piece - n ≡ length piece = omega arith in
    let tail : drop n text ≡ piece ++ rest = ap (drop n) e ∙ (ap (λ m. drop m (before ++ (piece ++ rest))) place ∙ drop-append_seam before (piece ++ rest)) in
    ap (λ m. take m (drop n text)) count ∙ (ap (take (length piece)) tail ∙ take-append_seam piece rest)

-- a part of a text that is cut into tokens with these terms
pub record IsCut (before rest : List ℕ) (ts : List Term) : Type 0 where
  pub tokens : List Token
  pub cut : Cuts (length before) rest (Ok tokens)
  pub terms : terms_of (before ++ rest) tokens ≡ ts

cut_space : (before rest : List ℕ) (ts : List Term) → IsCut (before ++ 32 ∷ []) rest ts → IsCut before (32 ∷ rest) ts
cut_space before rest ts c =
    let place : length (before ++ 32 ∷ []) ≡ length before + 1 = omega (arith, length-append before (32 ∷ [])) in
    record {
      tokens = c.tokens;
      cut = past_blank (length before) (32 ∷ rest) (Ok c.tokens) (separated 32 rest refl) (subst (λ n. Cuts n rest (Ok c.tokens)) place c.cut);
      terms = ap (λ l. terms_of l c.tokens) (sym (append_assoc before (32 ∷ []) rest)) ∙ c.terms;
    }

cut_token : (before : List ℕ) (k : Kind) (piece rest : List ℕ) (ts : List Term) → IsToken k piece rest → IsCut (before ++ piece) rest ts → IsCut before (piece ++ rest) (term_for k piece ∷ ts)
unfolding term_of
cut_token before k piece rest ts is c =
    record {
      tokens = record { kind = k; from = length before; upto = length before + length piece } ∷ c.tokens;
      cut = past_token (length before) (piece ++ rest) (Ok c.tokens) k (length piece) (token k piece rest is (piece ++ rest) refl)
          (subst (λ n. Cuts n (drop (length piece) (piece ++ rest)) (Ok c.tokens)) (length-append before piece) (subst (λ l. Cuts (length (before ++ piece)) l (Ok c.tokens)) (sym (drop-append_seam piece rest)) c.cut));
      terms = ap₂ (λ t us. t ∷ us) (ap (term_for k) (piece_is (before ++ (piece ++ rest)) before piece rest k (length before) refl refl)) (ap (λ l. terms_of l c.tokens) (sym (append_assoc before piece rest)) ∙ c.terms);
    }

pub is_cut : (rest : List ℕ) (ts : List Term) → Lexed rest ts → (before : List ℕ) → IsCut before rest ts
is_cut _ _ nothing_left before = record { tokens = []; cut = at_end (length before) [] nothing; terms = refl }
is_cut _ _ (after_space rest ts on) before = cut_space before rest ts (is_cut rest ts on (before ++ 32 ∷ []))
is_cut _ _ (after_token k piece rest ts is on) before = cut_token before k piece rest ts is (is_cut rest ts on (before ++ piece))

-- ---- texts before others

-- the text, before others, is lexed to terms that are so before the other terms
pub record Written (text : List ℕ) (Is : List Term → List Term → Type 0) (rest : List ℕ) (us : List Term) : Type 0 where
  pub terms : List Term
  pub lexed : Lexed (text ++ rest) terms
  pub spaced : Spaced (text ++ rest)
  pub is : Is terms us

-- whatever follows
abbrev pub Writes : List ℕ → (List Term → List Term → Type 0) → Type 0
Writes text Is = (rest : List ℕ) (us : List Term) → Spaced rest → Lexed rest us → Written text Is rest us

-- one thing and then another
pub data Then (A B : List Term → List Term → Type 0) : List Term → List Term → Type 0 where
  both : (ts mid us : List Term) → A ts mid → B mid us → Then A B ts us

pub written_both : (A B : List Term → List Term → Type 0) (a b rest : List ℕ) (us : List Term) → Writes a A → Written b B rest us → Written (a ++ b) (Then A B) rest us
written_both A B a b rest us wa second =
    let first = wa (b ++ rest) second.terms second.spaced second.lexed in
    record {
      terms = first.terms;
      lexed = subst (λ l. Lexed l first.terms) (sym (append_assoc a b rest)) first.lexed;
      spaced = subst Spaced (sym (append_assoc a b rest)) first.spaced;
      is = both first.terms second.terms us first.is second.is;
    }

pub writes_both : (A B : List Term → List Term → Type 0) (a b : List ℕ) → Writes a A → Writes b B → Writes (a ++ b) (Then A B)
writes_both A B a b wa wb rest us spaced lexed = written_both A B a b rest us wa (wb rest us spaced lexed)

pub written_as : (A B : List Term → List Term → Type 0) (text rest : List ℕ) (us : List Term) → ((ts vs : List Term) → A ts vs → B ts vs) → Written text A rest us → Written text B rest us
written_as A B text rest us turn w = record { terms = w.terms; lexed = w.lexed; spaced = w.spaced; is = turn w.terms us w.is }

pub writes_as : (A B : List Term → List Term → Type 0) (text : List ℕ) → ((ts us : List Term) → A ts us → B ts us) → Writes text A → Writes text B
writes_as A B text turn w rest us spaced lexed = written_as A B text rest us turn (w rest us spaced lexed)

-- ---- tokens

-- a term with that sign, and the others
pub data Begun (s : Sign) : List Term → List Term → Type 0 where
  begun : (t : Term) (us : List Term) → t.sign ≡ s → Begun s (t ∷ us) us

pub plain_sign : (piece : List ℕ) (s : Sign) → sign_of piece ≡ s → (plain_term piece).sign ≡ s
unfolding plain_term
plain_sign piece s h = h

-- what is asked of a word, in one test
abbrev pub is_word : List ℕ → Bool
is_word [] = false
is_word (b ∷ bs) = (if is_ascii_digit b then false else true) && list_all word (b ∷ bs)

parts : (a b : Bool) → ((if a then false else true) && b) ≡ true → (a ≡ false) × (b ≡ true)
parts true true h = grind arith
parts true false h = grind arith
parts false b h = (refl, h)

word_token : (piece rest : List ℕ) → is_word piece ≡ true → begins word rest ≡ false → IsToken kind.Word piece rest
word_token [] rest h ends = grind arith
word_token (b ∷ bs) rest h ends = let hs = parts (is_ascii_digit b) (list_all word (b ∷ bs)) h in a_word b bs rest hs.0 hs.1 ends

-- a word before other tokens
pub lexed_word : (piece rest : List ℕ) (us : List Term) → is_word piece ≡ true → begins word rest ≡ false → Lexed rest us → Lexed (piece ++ rest) (plain_term piece ∷ us)
lexed_word piece rest us h ends lexed = after_token kind.Word piece rest us (word_token piece rest h ends) lexed

-- a sign of one byte before other tokens
pub lexed_sign : (b : ℕ) (rest : List ℕ) (us : List Term) → plain b ≡ true → Lexed rest us → Lexed (b ∷ rest) (plain_term (b ∷ []) ∷ us)
lexed_sign b rest us h lexed = after_token kind.Symbol (b ∷ []) rest us (one_sign b rest h) lexed

pub word_written : (piece : List ℕ) (s : Sign) → is_word piece ≡ true → sign_of piece ≡ s → Writes (32 ∷ piece) (Begun s)
word_written piece s h is rest us spaced lexed = record {
  terms = plain_term piece ∷ us;
  lexed = after_space (piece ++ rest) (plain_term piece ∷ us) (lexed_word piece rest us h (stops word refl rest spaced) lexed);
  spaced = space (piece ++ rest);
  is = begun (plain_term piece) us (plain_sign piece s is);
}

pub symbol_written : (piece : List ℕ) (s : Sign) → ((rest : List ℕ) → Spaced rest → IsToken kind.Symbol piece rest) → sign_of piece ≡ s → Writes (32 ∷ piece) (Begun s)
symbol_written piece s h is rest us spaced lexed = record {
  terms = plain_term piece ∷ us;
  lexed = after_space (piece ++ rest) (plain_term piece ∷ us) (after_token kind.Symbol piece rest us (h rest spaced) lexed);
  spaced = space (piece ++ rest);
  is = begun (plain_term piece) us (plain_sign piece s is);
}

pub sign_written : (b : ℕ) (s : Sign) → plain b ≡ true → sign_of (b ∷ []) ≡ s → Writes (32 ∷ b ∷ []) (Begun s)
sign_written b s h is = symbol_written (b ∷ []) s (λ rest _. one_sign b rest h) is

pub order_written : (b : ℕ) (s : Sign) → order b ≡ true → sign_of (b ∷ []) ≡ s → Writes (32 ∷ b ∷ []) (Begun s)
order_written b s h is = symbol_written (b ∷ []) s (λ rest spaced. ordering b rest h (stops (λ c. c == 61) refl rest spaced)) is

pub equals_written : (b : ℕ) (s : Sign) → comparing b ≡ true → sign_of (b ∷ 61 ∷ []) ≡ s → Writes (32 ∷ b ∷ 61 ∷ []) (Begun s)
equals_written b s h is = symbol_written (b ∷ 61 ∷ []) s (λ rest _. with_equals b rest h) is

-- ---- texts between signs

self : (s : ℕ) → (s == s) ≡ true
self s = grind (arith, nat_tests)

same_byte : (b s : ℕ) → (b == s) ≡ true → b ≡ s
same_byte b s h = grind (arith, nat_tests)

-- doubled signs are taken once
pub single_doubled : (s : ℕ) (text : List ℕ) → single s false (doubled s text) ≡ text
single_doubled s [] = refl
single_doubled s (b ∷ bs) = at (b == s) refl (single_doubled s bs)
  where
    at : (t : Bool) → (b == s) ≡ t → single s false (doubled s bs) ≡ bs → single s false (if t then s ∷ s ∷ doubled s bs else b ∷ doubled s bs) ≡ b ∷ bs
    at true e on =
        ap (λ l. s ∷ l) (ap (λ t. if t && t then single s false (doubled s bs) else s ∷ single s t (doubled s bs)) (self s) ∙ on)
        ∙ ap (λ c. c ∷ bs) (sym (same_byte b s e))
    at false e on = ap (λ t. b ∷ single s t (doubled s bs)) e ∙ ap (λ l. b ∷ l) on

pub inside_enclosed : (s : ℕ) (text : List ℕ) → inside (s ∷ (doubled s text ++ s ∷ [])) ≡ text
inside_enclosed s text = inside_is (s ∷ (doubled s text ++ s ∷ [])) s (doubled s text) refl ∙ single_doubled s text
