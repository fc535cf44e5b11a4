-- Raw texts that stand for themselves.
use Rattle.std.specs.Prelude.{ℕ, Bool, not, ◌&&◌, ◌==◌}
use Rattle.sdb_base.specs.Ascii.{percent, plus}

-- neither `+` nor `%`
abbrev pub is_plain : ℕ → Bool
is_plain b = not (b == plus) && not (b == percent)
