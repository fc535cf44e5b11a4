-- The earlier of two moments, with its key.
use Rattle.std.specs.Prelude.{ℕ, nat_lt, if◌then◌else◌, Option, Some, None}

-- the key and its moment, where that is earlier than what was found so far
abbrev pub earlier_at : ℕ → ℕ → Option (ℕ × ℕ) → Option (ℕ × ℕ)
earlier_at k t None = Some (k, t)
earlier_at k t (Some found) = if nat_lt t found.1 then Some (k, t) else Some found

-- the same of a key that may have no moment
abbrev pub earlier_of : ℕ → Option ℕ → Option (ℕ × ℕ) → Option (ℕ × ℕ)
earlier_of k None found = found
earlier_of k (Some t) found = earlier_at k t found
