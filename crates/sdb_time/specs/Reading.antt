-- What the functions that read a moment's text give. The grammar is in `Moments`.
use Rattle.std.specs.Prelude.{ℕ, ◌+◌, ◌-◌, ◌*◌, Bool, true, false, ◌&&◌, ◌||◌, ◌==◌, nat_lt, List, [], ◌∷◌, length, drop, take_while, Option, Some, None, if◌then◌else◌}
use Rattle.std.specs.Char.{is_ascii_digit}
use Rattle.sdb_base.specs.Options.{◌>>=◌}
use Rattle.sdb_time.specs.Parts.{Parts, Zone}

-- two digits at the front, and what follows them
unfoldable pub two_digits : List ℕ → Option (ℕ × List ℕ)
two_digits [] = None
two_digits (a ∷ []) = None
two_digits (a ∷ b ∷ rest) =
    if is_ascii_digit a && is_ascii_digit b then Some ((a - 48) * 10 + (b - 48), rest) else None

-- what follows this byte at the front
unfoldable pub after_byte : ℕ → List ℕ → Option (List ℕ)
after_byte c [] = None
after_byte c (b ∷ rest) = if b == c then Some rest else None

-- a number of two digits, and what follows it and this byte
unfoldable pub field : ℕ → List ℕ → Option (ℕ × List ℕ)
field c text = do
  number ← two_digits text
  rest ← after_byte c number.1
  Some (number.0, rest)

-- a number of four digits at the front, and what follows it
unfoldable pub four_digits : List ℕ → Option (ℕ × List ℕ)
four_digits text = do
  high ← two_digits text
  low ← two_digits high.1
  Some (high.0 * 100 + low.0, low.1)

-- how many digits stand at the front
abbrev pub digits_len : List ℕ → ℕ
digits_len text = length (take_while is_ascii_digit text)

-- where a fraction stands at the front, what follows it, and else the text
unfoldable pub after_fraction : List ℕ → Option (List ℕ)
after_fraction [] = Some []
after_fraction (b ∷ rest) =
    if b == 46
    then (if digits_len rest == 0 || nat_lt 9 (digits_len rest) then None else Some (drop (digits_len rest) rest))
    else Some (b ∷ rest)

-- the zone, where nothing follows it
abbrev pub whole : Zone → List ℕ → Option Zone
whole found [] = Some found
whole found (b ∷ rest) = None

-- a distance of hours and minutes, with nothing behind it
unfoldable pub offset : Bool → List ℕ → Option Zone
offset is_behind text = do
  hours ← field 58 text
  minutes ← two_digits hours.1
  whole (record { is_behind = is_behind; hours = hours.0; minutes = minutes.0 }) minutes.1

-- the zone that a whole text spells: nothing, `Z`, or a sign and a distance
unfoldable pub zone : List ℕ → Option Zone
zone [] = Some (record { is_behind = false; hours = 0; minutes = 0 })
zone (b ∷ rest) =
    if b == 43 then offset false rest
    else (if b == 45 then offset true rest
    else (if b == 90 then whole (record { is_behind = false; hours = 0; minutes = 0 }) rest else None))

-- the numbers of a text that has the form of a moment
unfoldable pub parts : List ℕ → Option Parts
parts text = do
  year ← four_digits text
  month_text ← after_byte 45 year.1
  month ← field 45 month_text
  day ← field 84 month.1
  hour ← field 58 day.1
  minute ← field 58 hour.1
  second ← two_digits minute.1
  zone_text ← after_fraction second.1
  distance ← zone zone_text
  Some (record {
    year = year.0;
    month = month.0;
    day = day.0;
    hour = hour.0;
    minute = minute.0;
    second = second.0;
    zone = distance;
  })
