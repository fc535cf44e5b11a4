-- What tokens are to the grammar.
use Rattle.std.specs.Prelude.{ℕ, Bool, ◌==◌, ◌||◌, List, [], ◌∷◌, map, codes, if◌then◌else◌}
use Rattle.std.specs.Char.{to_ascii_lowercase}
use Rattle.std.specs.Str.{bytes_eq}
use Rattle.sdb_parse.specs.declared.sign.Row.{Row}
use Rattle.sdb_parse.specs.declared.sign.Sign.{Sign}
use Rattle.sdb_parse.specs.declared.sign.Sign.TheVariants.{Open, Close, Comma, Star, Equal, Unequal, Less, LessEqual, Greater, GreaterEqual, Or, And, Not, From, Where, Select, Like, Null, Is, Order, By, Asc, Desc, In, Between, Intersection, Limit, Every, ItemName, Count, Name, Quoted, Digits}

-- the place of a sign in its list
abbrev pub place : Sign → ℕ
place Open = 0
place Close = 1
place Comma = 2
place Star = 3
place Equal = 4
place Unequal = 5
place Less = 6
place LessEqual = 7
place Greater = 8
place GreaterEqual = 9
place Or = 10
place And = 11
place Not = 12
place From = 13
place Where = 14
place Select = 15
place Like = 16
place Null = 17
place Is = 18
place Order = 19
place By = 20
place Asc = 21
place Desc = 22
place In = 23
place Between = 24
place Intersection = 25
place Limit = 26
place Every = 27
place ItemName = 28
place Count = 29
place Name = 30
place Quoted = 31
place Digits = 32

-- whether two signs are the same
abbrev pub same : Sign → Sign → Bool
same a b = place a == place b

-- the words and symbols that have a sign of their own, in lower case
unfoldable pub words : List (List ℕ × Sign)
words =
    (codes "(", Open)
    ∷
    (codes ")", Close)
    ∷
    (codes ",", Comma)
    ∷
    (codes "*", Star)
    ∷
    (codes "=", Equal)
    ∷
    (codes "!=", Unequal)
    ∷
    (codes "<", Less)
    ∷
    (codes "<=", LessEqual)
    ∷
    (codes ">", Greater)
    ∷
    (codes ">=", GreaterEqual)
    ∷
    (codes "or", Or)
    ∷
    (codes "and", And)
    ∷
    (codes "not", Not)
    ∷
    (codes "from", From)
    ∷
    (codes "where", Where)
    ∷
    (codes "select", Select)
    ∷
    (codes "like", Like)
    ∷
    (codes "null", Null)
    ∷
    (codes "is", Is)
    ∷
    (codes "order", Order)
    ∷
    (codes "by", By)
    ∷
    (codes "asc", Asc)
    ∷
    (codes "desc", Desc)
    ∷
    (codes "in", In)
    ∷
    (codes "between", Between)
    ∷
    (codes "intersection", Intersection)
    ∷
    (codes "limit", Limit)
    ∷
    (codes "every", Every)
    ∷
    (codes "itemname", ItemName)
    ∷
    (codes "count", Count)
    ∷
    []

-- a row of the program's table as contracts see it
abbrev pub seen : Row → List ℕ × Sign
seen row = (row.word.now, row.sign)

-- whether two texts are the same in any ASCII case
abbrev pub same_word : List ℕ → List ℕ → Bool
same_word a b = bytes_eq (map to_ascii_lowercase a) (map to_ascii_lowercase b)

-- the sign beside that word, in any ASCII case; other words are names
abbrev pub sign_in : List (List ℕ × Sign) → List ℕ → Sign
sign_in [] piece = Name
sign_in (row ∷ rows) piece = if same_word row.0 piece then row.1 else sign_in rows piece

-- the sign of a word or a symbol
unfoldable pub sign_of : List ℕ → Sign
sign_of piece = sign_in words piece

-- the sign is that of a word that may be a name
abbrev pub may_name : Sign → Bool
may_name s = same s Name || same s ItemName || same s Count
