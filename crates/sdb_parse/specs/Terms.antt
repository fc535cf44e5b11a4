-- The terms of a text: what its tokens are to the grammar.
use Rattle.std.specs.Prelude.{◌≡◌, ℕ, ◌-◌, ◌<◌, ◌≤◌, Bool, false, ◌&&◌, ◌==◌, List, [], ◌∷◌, ◌++◌, length, take, drop, map, IsUtf8, if◌then◌else◌}
use Rattle.sdb_lex.specs.declared.token.Kind.{Kind}
use Rattle.sdb_lex.specs.declared.token.Kind.TheVariants as kind
use Rattle.sdb_lex.specs.declared.token.Token.{Token}
use Rattle.sdb_parse.specs.declared.sign.Sign.TheVariants as sign
use Rattle.sdb_parse.specs.declared.term.Term.{Term}
use Rattle.sdb_parse.specs.Signs.{may_name, sign_of}

-- the bytes of a token
abbrev pub piece_of : List ℕ → Token → List ℕ
piece_of text t = take (t.upto - t.from) (drop t.from text)

-- a text with each doubled sign taken once; `pending` says that a sign came that may be doubled
abbrev pub single : ℕ → Bool → List ℕ → List ℕ
single s pending [] = []
single s pending (b ∷ bs) = if pending && b == s then single s false bs else b ∷ single s (b == s) bs

-- what stands between the signs of a token, each doubled sign once
unfoldable pub inside : List ℕ → List ℕ
inside [] = []
inside (s ∷ rest) = single s false (take (length rest - 1) rest)

-- a word or a symbol
unfoldable pub plain_term : List ℕ → Term
plain_term piece = record { sign = sign_of piece; text = if may_name (sign_of piece) then piece else [] }

-- the term for a piece of that kind
abbrev pub term_for : Kind → List ℕ → Term
term_for kind.Word piece = plain_term piece
term_for kind.Symbol piece = plain_term piece
term_for kind.Ticked piece = record { sign = sign.Name; text = inside piece }
term_for kind.Quoted piece = record { sign = sign.Quoted; text = inside piece }
term_for kind.Digits piece = record { sign = sign.Digits; text = piece }

-- the term of a token
unfoldable pub term_of : List ℕ → Token → Term
term_of text t = term_for t.kind (piece_of text t)

-- the terms of all tokens
abbrev pub terms_of : List ℕ → List Token → List Term
terms_of text tokens = map (term_of text) tokens

-- a text between two signs in ASCII
pub record IsEnclosed (piece : List ℕ) : Type 0 where
  pub sign : ℕ
  pub inner : List ℕ
  pub is : piece ≡ sign ∷ (inner ++ sign ∷ [])
  pub ascii : sign < 128
  pub utf8 : IsUtf8 inner

-- quoted and ticked pieces stand between their signs
abbrev pub MayEnclose : Kind → List ℕ → Type 0
MayEnclose kind.Quoted piece = IsEnclosed piece
MayEnclose kind.Ticked piece = IsEnclosed piece
MayEnclose _ piece = Unit {0}

-- a token of the text, which is a text by itself
pub record IsPiece (text : List ℕ) (t : Token) : Type 0 where
  pub rising : t.from ≤ t.upto
  pub within : t.upto ≤ length text
  pub utf8 : IsUtf8 (piece_of text t)
  pub enclosed : MayEnclose t.kind (piece_of text t)
