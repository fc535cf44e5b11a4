-- Decimal numbers without leading zeros.
use Rattle.std.specs.Prelude.{ℕ, ◌+◌, ◌-◌, ◌*◌, List, [], ◌∷◌, length, slice_index, Bool, not, ◌&&◌, ◌||◌, ◌==◌, nat_lt, nat_le, Option, Some, None, if◌then◌else◌}
use Rattle.std.specs.Char.{is_ascii_digit}
use Rattle.std.specs.List.{list_all}

-- `0`, or digits that don't begin with `0`
abbrev pub is_decimal : List ℕ → Bool
is_decimal s = nat_lt 0 (length s) && (length s == 1 || not (slice_index s 0 == 48)) && list_all is_ascii_digit s

-- the number whose digits are those of a number and then these
abbrev pub value_after : ℕ → List ℕ → ℕ
value_after n [] = n
value_after n (c ∷ cs) = value_after (n * 10 + (c - 48)) cs

-- the number that a text spells, if it spells one that is at most `most`
abbrev pub decimal_of : List ℕ → ℕ → Option ℕ
decimal_of s most = if is_decimal s && nat_le (value_after 0 s) most then Some (value_after 0 s) else None
