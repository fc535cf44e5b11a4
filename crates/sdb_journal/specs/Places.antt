-- Where a journal stands in its file.
use Rattle.std.specs.Prelude.{◌≡◌, ℕ, ◌+◌, List, [], ◌∷◌, length}
use Rattle.sdb_record.specs.Journals.{Stands, blocks, next}

-- a journal's generation, the number before its first record, the place of its current gate, and the number of its last record
pub record Place : Type 0 where
  pub generation : ℕ
  pub first : ℕ
  pub gate : ℕ
  pub sequence : ℕ

-- the number of the last of so many records
abbrev pub number_after : ℕ → List (List ℕ) → ℕ
number_after n [] = n
number_after n (body ∷ bodies) = number_after (next n) bodies

-- the file is that journal, with records of these bodies
pub record IsAt (place : Place) (bodies : List (List ℕ)) (file : List ℕ) : Type 0 where
  pub stands : Stands place.generation place.first bodies file
  pub gate_is : place.gate ≡ 25 + length (blocks place.first bodies)
  pub sequence_is : place.sequence ≡ number_after place.first bodies
