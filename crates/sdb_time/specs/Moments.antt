-- The texts of moments, and the Unix seconds that they name (ISO 8601, RFC 3339).
use Rattle.std.specs.Prelude.{◌≡◌, ℕ, ◌+◌, ◌*◌, ◌≤◌, true, false, List, [], ◌∷◌, ◌++◌, length, ℤ, pos, ◌+ℤ◌, ◌-ℤ◌, ◌*ℤ◌, if◌then◌else◌}
use Rattle.std.specs.Char.{is_ascii_digit}
use Rattle.std.specs.List.{list_all}
use Rattle.jiff_core.specs.Calendar.{IsCivilDate, days_from_civil}
use Rattle.sdb_base.specs.Ascii.{dash, colon, plus, dot, letter_t, letter_z}
use Rattle.sdb_base.specs.Decimal.{value_after}
use Rattle.sdb_time.specs.Parts.{Parts, Zone}

-- exactly so many digits, and the number that they spell
pub record IsNumber (width : ℕ) (digits : List ℕ) (n : ℕ) : Type 0 where
  pub long : length digits ≡ width
  pub all : list_all is_ascii_digit digits ≡ true
  pub value : n ≡ value_after 0 digits

-- nothing, or `.` and 1 to 9 digits
pub data IsFraction : List ℕ → Type 0 where
  whole : IsFraction []
  parts_of_second : (digits : List ℕ) → list_all is_ascii_digit digits ≡ true
      → 1 ≤ length digits → length digits ≤ 9 → IsFraction (dot ∷ digits)

-- `hh:mm`
pub record IsOffset (text : List ℕ) (hours minutes : ℕ) : Type 0 where
  pub hour : List ℕ
  pub minute : List ℕ
  pub spelled : text ≡ hour ++ colon ∷ minute
  pub hour_is : IsNumber 2 hour hours
  pub minute_is : IsNumber 2 minute minutes

-- the zone without a distance
abbrev pub utc_time : Zone
utc_time = record { is_behind = false; hours = 0; minutes = 0 }

-- the zone whose clocks are ahead of UTC by so many hours and minutes
abbrev pub ahead_by : ℕ → ℕ → Zone
ahead_by hours minutes = record { is_behind = false; hours = hours; minutes = minutes }

-- the zone whose clocks are behind UTC by so many hours and minutes
abbrev pub behind_by : ℕ → ℕ → Zone
behind_by hours minutes = record { is_behind = true; hours = hours; minutes = minutes }

-- nothing or `Z`, which both mean UTC, or a sign and a distance
pub data IsZone : List ℕ → Zone → Type 0 where
  unsaid : IsZone [] utc_time
  utc : IsZone (letter_z ∷ []) utc_time
  ahead : (text : List ℕ) (hours minutes : ℕ) → IsOffset text hours minutes
      → IsZone (plus ∷ text) (ahead_by hours minutes)
  behind : (text : List ℕ) (hours minutes : ℕ) → IsOffset text hours minutes
      → IsZone (dash ∷ text) (behind_by hours minutes)

-- `YYYY-MM-DDThh:mm:ss`, then a fraction of a second and a zone
pub record Spells (text : List ℕ) (p : Parts) : Type 0 where
  pub year : List ℕ
  pub month : List ℕ
  pub day : List ℕ
  pub hour : List ℕ
  pub minute : List ℕ
  pub second : List ℕ
  pub fraction : List ℕ
  pub zone : List ℕ
  pub spelled : text ≡ year ++ (dash ∷ (month ++ (dash ∷ (day
      ++ (letter_t ∷ (hour ++ (colon ∷ (minute ++ (colon ∷ (second ++ (fraction ++ zone)))))))))))
  pub year_is : IsNumber 4 year p.year
  pub month_is : IsNumber 2 month p.month
  pub day_is : IsNumber 2 day p.day
  pub hour_is : IsNumber 2 hour p.hour
  pub minute_is : IsNumber 2 minute p.minute
  pub second_is : IsNumber 2 second p.second
  pub fraction_is : IsFraction fraction
  pub zone_is : IsZone zone p.zone

-- seconds since midnight
abbrev pub clock_seconds : Parts → ℕ
clock_seconds p = 3600 * p.hour + 60 * p.minute + p.second

-- what the zone's clocks are ahead of UTC
abbrev pub zone_seconds : Zone → ℤ
zone_seconds z =
    if z.is_behind
    then pos 0 -ℤ pos (3600 * z.hours + 60 * z.minutes)
    else pos (3600 * z.hours + 60 * z.minutes)

-- the hours, minutes and seconds are in range
pub record HasClock (p : Parts) : Type 0 where
  pub hour : p.hour ≤ 23
  pub minute : p.minute ≤ 59
  pub second : p.second ≤ 59
  pub zone_hours : p.zone.hours ≤ 23
  pub zone_minutes : p.zone.minutes ≤ 59

-- The parts are in range, the calendar has the date, and the moment is so many seconds after
-- 1970-01-01T00:00:00Z. The fraction doesn't count.
pub record IsMoment (p : Parts) (seconds : ℕ) : Type 0 where
  pub date : IsCivilDate (pos p.year) p.month p.day
  pub clock : HasClock p
  pub seconds_are : pos seconds ≡ (pos 86400 *ℤ days_from_civil (pos p.year) p.month p.day)
      +ℤ pos (clock_seconds p) -ℤ zone_seconds p.zone

-- the text is of a moment at this number of seconds
pub record IsMomentText (text : List ℕ) (seconds : ℕ) : Type 0 where
  pub parts : Parts
  pub spells : Spells text parts
  pub moment : IsMoment parts seconds

-- the text has the form of a moment, and there is no such moment
pub record NamesNoMoment (text : List ℕ) : Type 0 where
  pub parts : Parts
  pub spells : Spells text parts
  pub none : (seconds : ℕ) → ¬ (IsMoment parts seconds)
