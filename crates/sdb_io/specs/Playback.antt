-- A list of steps that is given out one after the other. A connection's Opened that was given becomes an empty Piece
-- of it when the connection is closed.
use Rattle.std.specs.Prelude.{◌≡◌, ◌<◌, ◌≤◌, ℕ, Bool, true, false, ◌&&◌, ◌==◌, nat_lt, nat_le, if◌then◌else◌, List, [], ◌∷◌, length, take, drop, map}
use Rattle.std.specs.List.{list_all}
use Rattle.sdb_io.specs.declared.links.script.LinkStep.{LinkStep}
use Rattle.sdb_io.specs.declared.links.script.LinkStep.TheVariants.{Opened, Piece, Ended, Closed}
use Rattle.sdb_io.specs.Links.{Step, opens, gives, ends, closes, Stage, unopened, opened, closed}

-- the step that a step of a script stands for
abbrev pub step_of : LinkStep → Step
step_of (Opened c) = opens c
step_of (Piece c bytes) = gives c bytes.bytes
step_of (Ended c) = ends c
step_of Closed = closes

-- the step opens that connection
abbrev pub is_opened : ℕ → LinkStep → Bool
is_opened k (Opened c) = c == k
is_opened k (Piece c bytes) = false
is_opened k (Ended c) = false
is_opened k Closed = false

-- The numbers of the connections that open rise strictly above the last one, and no piece is empty.
abbrev pub is_story : ℕ → List Step → Bool
is_story last [] = true
is_story last (opens c ∷ steps) = nat_lt last c && is_story c steps
is_story last (gives c bytes ∷ steps) = nat_lt 0 (length bytes) && is_story last steps
is_story last (ends c ∷ steps) = is_story last steps
is_story last (closes ∷ steps) = is_story last steps

-- what is known of a list of steps that is given out
pub record Played : Type 0 where
  -- the steps that were given whole, but for the closings recorded in them
  pub given : List Step
  pub to_come : List Step
  -- the number of the last connection that was opened, or 0
  pub last : ℕ

-- the steps, where so many bytes of the first were given
abbrev pub after_front : ℕ → List Step → List Step
after_front used [] = []
after_front used (opens c ∷ steps) = opens c ∷ steps
after_front used (gives c bytes ∷ steps) = gives c (drop used bytes) ∷ steps
after_front used (ends c ∷ steps) = ends c ∷ steps
after_front used (closes ∷ steps) = closes ∷ steps

-- the first step has more bytes than that; of any other than a piece none were given
abbrev pub is_before_end : ℕ → List Step → Bool
is_before_end used [] = used == 0
is_before_end used (opens c ∷ steps) = used == 0
is_before_end used (gives c bytes ∷ steps) = nat_lt used (length bytes)
is_before_end used (ends c ∷ steps) = used == 0
is_before_end used (closes ∷ steps) = used == 0

-- the stage of a connection after these steps
abbrev pub stage_in : List Step → ℕ → Stage
stage_in [] k = unopened
stage_in (opens c ∷ steps) k = if k == c then opened else stage_in steps k
stage_in (gives c [] ∷ steps) k = if k == c then closed else stage_in steps k
stage_in (gives c (b ∷ bs) ∷ steps) k = stage_in steps k
stage_in (ends c ∷ steps) k = stage_in steps k
stage_in (closes ∷ steps) k = stage_in steps k

-- the step opens or closes no connection above the last one
abbrev pub is_up_to : ℕ → Step → Bool
is_up_to last (opens c) = nat_le c last
is_up_to last (gives c []) = nat_le c last
is_up_to last (gives c (b ∷ bs)) = true
is_up_to last (ends c) = true
is_up_to last closes = true

-- the steps that were given
abbrev pub given_of : List LinkStep → ℕ → List Step
given_of steps at = map step_of (take at steps)

-- the steps that are left, the one that is under way with them
abbrev pub left_of : List LinkStep → ℕ → List Step
left_of steps at = map step_of (drop at steps)

-- the story that was played so far
abbrev pub played_of : List LinkStep → ℕ → ℕ → ℕ → Played
played_of steps at used last = record { given = given_of steps at; to_come = after_front used (left_of steps at); last = last }

-- what holds of them always
pub record IsPlayed (steps : List LinkStep) (at used last : ℕ) : Type 0 where
  pub within : at ≤ length steps
  pub story : is_story last (left_of steps at) ≡ true
  pub front : is_before_end used (left_of steps at) ≡ true
  pub given : list_all (is_up_to last) (given_of steps at) ≡ true
