-- What the head of a journal's file says.
use Rattle.std.specs.Prelude.{◌≡◌, ℕ, ◌+◌, ◌^◌, ◌<◌, ◌≤◌, List, ◌∷◌, ◌++◌, length, drop, slice_index}
use Rattle.sdb_format.specs.Numbers.{be32}
use Rattle.sdb_record.specs.Journals.{header, be64, next}
use Rattle.sdb_record.specs.Stands.{journal_of}

-- no header of a journal that belongs into that file stands at the front
abbrev pub NoFront : ℕ → List ℕ → Type 0
NoFront file bytes = (generation first : ℕ) (rest : List ℕ) → generation < 2 ^ 64 → first < 2 ^ 64 → journal_of generation ≡ file → bytes ≡ header generation first ++ rest → ⊥

-- the file is open, with the header of a journal of that generation and that first number
pub record HasHead (generation first : ℕ) (bytes : List ℕ) : Type 0 where
  pub long : 26 ≤ length bytes
  pub front : bytes ≡ header generation first ++ drop 25 bytes

-- the file is open, and no header of a journal that belongs into it stands at its front
pub record IsBadHead (file : ℕ) (bytes : List ℕ) : Type 0 where
  pub long : 26 ≤ length bytes
  pub gate : slice_index bytes 0 ≡ 1
  pub none : NoFront file bytes

-- an open gate stands there, and behind it the head of the record after the one with number n, whose body has that size
pub record HasRecordHead (n size : ℕ) (bytes : List ℕ) : Type 0 where
  pub front : bytes ≡ 1 ∷ (be32 size ++ (be64 (next n) ++ drop 13 bytes))
  pub fits : size < 2 ^ 32
