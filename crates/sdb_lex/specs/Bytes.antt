-- Classes of bytes in a Select expression.
use Rattle.std.specs.Prelude.{ℕ, suc, Bool, false, cond, ◌||◌, ◌==◌, List, [], ◌∷◌}
use Rattle.std.specs.Char.{is_ascii_alphanumeric}

-- a space, a tab, a carriage return or a line feed
abbrev pub blank : ℕ → Bool
blank b = b == 32 || b == 9 || b == 13 || b == 10

-- an ASCII letter, a digit, `_` or `$`
abbrev pub word : ℕ → Bool
word b = is_ascii_alphanumeric b || b == 95 || b == 36

-- `'` or `"`
abbrev pub quote : ℕ → Bool
quote b = b == 39 || b == 34

-- `'`, `"` or a backtick
abbrev pub sign : ℕ → Bool
sign b = b == 39 || b == 34 || b == 96

-- `(`, `)`, `,`, `*` or `=`
abbrev pub plain : ℕ → Bool
plain b = b == 40 || b == 41 || b == 44 || b == 42 || b == 61

-- `<` or `>`
abbrev pub order : ℕ → Bool
order b = b == 60 || b == 62

-- `!`, `<` or `>`
abbrev pub comparing : ℕ → Bool
comparing b = b == 33 || b == 60 || b == 62

-- whether the text begins with a byte that passes
abbrev pub begins : (ℕ → Bool) → List ℕ → Bool
begins p [] = false
begins p (b ∷ bs) = p b

-- how many bytes pass before the first that doesn't
abbrev pub run : (ℕ → Bool) → List ℕ → ℕ
run p [] = 0
run p (b ∷ bs) = cond (p b) (suc (run p bs)) 0
