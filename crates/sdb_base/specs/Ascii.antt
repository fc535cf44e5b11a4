-- Bytes by name (ASCII).
use Rattle.std.specs.Prelude.{ℕ}

-- `b'\n'`
abbrev pub line_feed : ℕ
line_feed = 10

-- `b' '`
abbrev pub space : ℕ
space = 32

-- `b'#'`
abbrev pub hash_sign : ℕ
hash_sign = 35

-- `b'%'`
abbrev pub percent : ℕ
percent = 37

-- `b'&'`
abbrev pub ampersand : ℕ
ampersand = 38

-- `b'+'`
abbrev pub plus : ℕ
plus = 43

-- `b'-'`
abbrev pub dash : ℕ
dash = 45

-- `b'.'`
abbrev pub dot : ℕ
dot = 46

-- `b'/'`
abbrev pub slash : ℕ
slash = 47

-- `b':'`
abbrev pub colon : ℕ
colon = 58

-- `b'='`
abbrev pub equals_sign : ℕ
equals_sign = 61

-- `b'T'`
abbrev pub letter_t : ℕ
letter_t = 84

-- `b'Z'`
abbrev pub letter_z : ℕ
letter_z = 90
