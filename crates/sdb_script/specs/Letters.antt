-- The letters of a script, by name (ASCII).
use Rattle.std.specs.Prelude.{ℕ}

-- `b'C'`: commit
abbrev pub letter_c : ℕ
letter_c = 67

-- `b'D'`: bytes of a connection
abbrev pub letter_d : ℕ
letter_d = 68

-- `b'E'`: the end of a connection
abbrev pub letter_e : ℕ
letter_e = 69

-- `b'O'`: a connection is opened
abbrev pub letter_o : ℕ
letter_o = 79

-- `b'W'`: background work
abbrev pub letter_w : ℕ
letter_w = 87

-- `b'S'`: bytes that are sent
abbrev pub letter_s : ℕ
letter_s = 83

-- `b'X'`: the server closes a connection
abbrev pub letter_x : ℕ
letter_x = 88
