-- What stands at the front of a text, by tests. The definition that a contract rests on is the relation of `Tokens`.
use Rattle.std.specs.Prelude.{ℕ, suc, ◌+◌, Bool, false, not, ◌&&◌, ◌==◌, if◌then◌else◌, List, [], ◌∷◌, drop, Option, None, Some, option_map}
use Rattle.std.specs.Char.{is_ascii_digit}
use Rattle.sdb_lex.specs.declared.front.Front.{Front}
use Rattle.sdb_lex.specs.declared.front.Front.TheVariants as front
use Rattle.sdb_lex.specs.declared.token.Kind.TheVariants as kind
use Rattle.sdb_lex.specs.Bytes.{blank, word, sign, plain, comparing, begins, run}

-- how many bytes there are up to the closing sign and with it, where `pending` says that a sign came that may be doubled
abbrev pub closing : ℕ → Bool → List ℕ → Option ℕ
closing s pending [] = if pending then Some 0 else None
closing s pending (b ∷ bs) = if pending && not (b == s) then Some 0 else option_map suc (closing s (b == s && not pending) bs)

-- what begins with a sign, where it is closed after so many bytes or not at all
abbrev pub enclosed_with : ℕ → Option ℕ → Front
enclosed_with s None = front.Unclosed
enclosed_with s (Some n) = if not (s == 96) then front.Piece kind.Quoted (1 + n) else (if n == 1 then front.Bad 0 else front.Piece kind.Ticked (1 + n))

-- what begins with a sign and goes on so
abbrev pub enclosed_front : ℕ → List ℕ → Front
enclosed_front s rest = enclosed_with s (closing s false rest)

-- what begins with a digit
abbrev pub digits_front : List ℕ → Front
digits_front text = if begins word (drop (run is_ascii_digit text) text) then front.Bad (run is_ascii_digit text) else front.Piece kind.Digits (run is_ascii_digit text)

-- what begins with the byte of a symbol, or with one that begins nothing
abbrev pub symbol_front : ℕ → List ℕ → Front
symbol_front b rest =
    if plain b then front.Piece kind.Symbol 1 else
    (if not (comparing b) then front.Bad 0 else
    (if begins (λ c. c == 61) rest then front.Piece kind.Symbol 2 else
    (if b == 33 then front.Bad 0 else front.Piece kind.Symbol 1)))

-- what stands at the front of a text
abbrev pub front_of : List ℕ → Front
front_of [] = front.Nothing
front_of (b ∷ rest) =
    if blank b then front.Blank else
    (if is_ascii_digit b then digits_front (b ∷ rest) else
    (if word b then front.Piece kind.Word (run word (b ∷ rest)) else
    (if sign b then enclosed_front b rest else symbol_front b rest)))
