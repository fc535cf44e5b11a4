-- Numbers drawn from a seed: a linear congruential generator modulo 2^64.
use Rattle.std.specs.Prelude.{ℕ, ◌+◌, ◌*◌, ◌/◌, ◌%◌, ◌^◌}

-- the state after a draw
unfoldable pub next_state : ℕ → ℕ
next_state state = (state * 6364136223846793005 + 1442695040888963407) % 2 ^ 64

-- the number below `many` that a state gives
unfoldable pub below : (many state : ℕ) → ℕ
below many state = (state / 2 ^ 32) % many
