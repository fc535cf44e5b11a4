-- The numbers that the text of a moment is made of.
use Rattle.std.specs.Prelude.{ℕ, Bool}

-- a zone's distance from UTC
pub record Zone : Type 0 where
  pub is_behind : Bool
  pub hours : ℕ
  pub minutes : ℕ

-- the numbers of a moment's text
pub record Parts : Type 0 where
  pub year : ℕ
  pub month : ℕ
  pub day : ℕ
  pub hour : ℕ
  pub minute : ℕ
  pub second : ℕ
  pub zone : Zone
