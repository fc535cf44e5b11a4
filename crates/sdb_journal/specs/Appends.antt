-- What a crash during an append leaves.
use Rattle.std.specs.Prelude.{◌≢◌, ◌⊎◌, ℕ, ◌-◌, List, [], ◌∷◌, ◌++◌, length, take, drop}
use Rattle.sdb_disk.specs.Disk.{Files, State, SettledFile, SameFile}
use Rattle.sdb_record.specs.Journals.{Stands}
use Rattle.sdb_journal.specs.Places.{Place, IsAt}

-- the body in a frame: what stands behind 12 bytes and before the last one
abbrev pub body_of : List ℕ → List ℕ
body_of frame = take (length frame - 13) (drop 12 frame)

-- the journal's file has its records, or these and one of that body; the other files are as they may have been
pub record BeforeOrAfter (file generation first : ℕ) (bodies : List (List ℕ)) (body : List ℕ) (old : State) (c : Files) : Type 0 where
  pub own : Stands generation first bodies (c file) ⊎ Stands generation first (bodies ++ body ∷ []) (c file)
  pub others : (k : ℕ) → k ≢ file → old.may_leave k (c k)

-- the journal has the record, for certain
pub record Appended (file : ℕ) (place : Place) (bodies : List (List ℕ)) (old new : State) : Type 0 where
  pub at : IsAt place bodies (new.seen file)
  pub settled : SettledFile new file
  pub others : (k : ℕ) → k ≢ file → SameFile old new k
