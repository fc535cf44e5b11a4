-- The moment of a request (signature version 2).
use Rattle.std.specs.Prelude.{ℕ, ◌+◌, Bool, ◌&&◌, nat_le, List, Option, Some, None, Result, Ok, Err, if◌then◌else◌}
use Rattle.sdb_tables.specs.declared.refusal.Refusal.{Refusal}
use Rattle.sdb_tables.specs.declared.refusal.Refusal.TheVariants.{InvalidParameterValue, RequestExpired}
use Rattle.sdb_time.specs.Moments.{IsMomentText}
use Rattle.sdb_sign.specs.declared.claim.MomentKind.{MomentKind}
use Rattle.sdb_sign.specs.declared.claim.MomentKind.TheVariants.{Timestamp, Expires}

-- the seconds that a Timestamp may lie before or after the moment at which the request came
abbrev pub most_skew : ℕ
most_skew = 900

-- a Timestamp lies near now, where 900 seconds are accepted on both sides; an Expires isn't before it
abbrev pub is_fresh : MomentKind → ℕ → ℕ → Bool
is_fresh Timestamp now moment = nat_le now (moment + most_skew) && nat_le moment (now + most_skew)
is_fresh Expires now moment = nat_le now moment

-- what a moment's text reads as: its seconds, or nothing where it names no moment
abbrev pub ReadsAs : List ℕ → Option ℕ → Type 0
ReadsAs text None = (seconds : ℕ) → ¬ (IsMomentText text seconds)
ReadsAs text (Some seconds) = IsMomentText text seconds

-- a moment that can't be read is refused, and one that isn't fresh, with now before it
abbrev pub in_time : MomentKind → ℕ → Option ℕ → Result (Unit {0}) Refusal
in_time kind now None = Err InvalidParameterValue
in_time kind now (Some moment) =
    if is_fresh kind now moment then Ok tt else Err (RequestExpired now moment)
