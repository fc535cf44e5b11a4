-- The tokens of a text: what stands at its front, and the cutting of the whole by it.
use Rattle.std.specs.Prelude.{◌≡◌, ℕ, ◌+◌, ◌<◌, ◌≤◌, Bool, true, false, ◌||◌, ◌==◌, if◌then◌else◌, List, [], ◌∷◌, ◌++◌, length, drop, Result, Ok, Err}
use Rattle.std.specs.List.{list_all}
use Rattle.std.specs.Char.{is_ascii_digit}
use Rattle.sdb_lex.specs.declared.fault.LexFault.{LexFault}
use Rattle.sdb_lex.specs.declared.fault.LexFault.TheVariants.{BadByte, Unclosed}
use Rattle.sdb_lex.specs.declared.front.Front.{Front}
use Rattle.sdb_lex.specs.declared.front.Front.TheVariants as front
use Rattle.sdb_lex.specs.declared.token.Kind.{Kind}
use Rattle.sdb_lex.specs.declared.token.Kind.TheVariants as kind
use Rattle.sdb_lex.specs.declared.token.Token.{Token}
use Rattle.sdb_lex.specs.Bytes.{blank, word, quote, sign, plain, order, comparing, begins}

-- a text with each sign doubled
abbrev pub doubled : ℕ → List ℕ → List ℕ
doubled s [] = []
doubled s (b ∷ bs) = if b == s then s ∷ s ∷ doubled s bs else b ∷ doubled s bs

-- the piece is a token of that kind where `rest` follows it
pub data IsToken : Kind → List ℕ → List ℕ → Type 0 where
  a_word : (b : ℕ) (bs rest : List ℕ) → is_ascii_digit b ≡ false → list_all word (b ∷ bs) ≡ true → begins word rest ≡ false → IsToken kind.Word (b ∷ bs) rest
  digits : (b : ℕ) (bs rest : List ℕ) → list_all is_ascii_digit (b ∷ bs) ≡ true → begins word rest ≡ false → IsToken kind.Digits (b ∷ bs) rest
  quoted : (s : ℕ) (inner rest : List ℕ) → quote s ≡ true → begins (λ b. b == s) rest ≡ false → IsToken kind.Quoted (s ∷ (doubled s inner ++ s ∷ [])) rest
  ticked : (b : ℕ) (inner rest : List ℕ) → begins (λ c. c == 96) rest ≡ false → IsToken kind.Ticked (96 ∷ (doubled 96 (b ∷ inner) ++ 96 ∷ [])) rest
  one_sign : (b : ℕ) (rest : List ℕ) → plain b ≡ true → IsToken kind.Symbol (b ∷ []) rest
  ordering : (b : ℕ) (rest : List ℕ) → order b ≡ true → begins (λ c. c == 61) rest ≡ false → IsToken kind.Symbol (b ∷ []) rest
  with_equals : (b : ℕ) (rest : List ℕ) → comparing b ≡ true → IsToken kind.Symbol (b ∷ 61 ∷ []) rest

-- whether a byte separates tokens or may begin one
abbrev pub is_known : ℕ → Bool
is_known b = blank b || word b || sign b || plain b || comparing b

-- what the text begins with: nothing, a blank, a token with its length, a bad byte at a place, or a sign that isn't closed
pub data Begins : List ℕ → Front → Type 0 where
  nothing : Begins [] front.Nothing
  separated : (b : ℕ) (rest : List ℕ) → blank b ≡ true → Begins (b ∷ rest) front.Blank
  token : (k : Kind) (piece rest : List ℕ) → IsToken k piece rest → (text : List ℕ) → text ≡ piece ++ rest → Begins text (front.Piece k (length piece))
  spoiled : (b : ℕ) (bs rest : List ℕ) → list_all is_ascii_digit (b ∷ bs) ≡ true → begins is_ascii_digit rest ≡ false → begins word rest ≡ true → (text : List ℕ) → text ≡ (b ∷ bs) ++ rest → Begins text (front.Bad (length (b ∷ bs)))
  empty_name : (rest : List ℕ) → begins (λ c. c == 96) rest ≡ false → Begins (96 ∷ 96 ∷ rest) (front.Bad 0)
  unknown : (b : ℕ) (rest : List ℕ) → is_known b ≡ false → Begins (b ∷ rest) (front.Bad 0)
  lone_not : (rest : List ℕ) → begins (λ c. c == 61) rest ≡ false → Begins (33 ∷ rest) (front.Bad 0)
  unclosed : (s : ℕ) (inner : List ℕ) → sign s ≡ true → (text : List ℕ) → text ≡ s ∷ doubled s inner → Begins text front.Unclosed

-- the tokens of a text or the first fault in it
abbrev pub Cut : Type 0
Cut = Result (List Token) LexFault

-- a token before the others
abbrev pub with_first : Token → Cut → Cut
with_first t (Ok ts) = Ok (t ∷ ts)
with_first t (Err fault) = Err fault

-- the text, which begins at place `n`, is cut so
pub data Cuts : ℕ → List ℕ → Cut → Type 0 where
  at_end : (n : ℕ) (text : List ℕ) → Begins text front.Nothing → Cuts n text (Ok [])
  past_blank : (n : ℕ) (text : List ℕ) (cut : Cut) → Begins text front.Blank → Cuts (n + 1) (drop 1 text) cut → Cuts n text cut
  past_token : (n : ℕ) (text : List ℕ) (cut : Cut) (k : Kind) (len : ℕ) → Begins text (front.Piece k len) → Cuts (n + len) (drop len text) cut
      → Cuts n text (with_first (record { kind = k; from = n; upto = n + len }) cut)
  bad_byte : (n : ℕ) (text : List ℕ) (on : ℕ) → Begins text (front.Bad on) → Cuts n text (Err (BadByte (n + on)))
  left_open : (n : ℕ) (text : List ℕ) → Begins text front.Unclosed → Cuts n text (Err (Unclosed n))

-- a text is cut in one way
abbrev pub OneCutting : Type 0
OneCutting = (n : ℕ) (text : List ℕ) (one other : Cut) → Cuts n text one → Cuts n text other → one ≡ other

-- each token is not empty, begins no sooner than the one before it ends, and ends within the text
abbrev pub AreSpans : ℕ → ℕ → List Token → Type 0
AreSpans low high [] = low ≤ high
AreSpans low high (t ∷ ts) = (low ≤ t.from) × (t.from < t.upto) × AreSpans t.upto high ts
