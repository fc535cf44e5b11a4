-- A disk of four files: what a read gives, what a crash may leave, and what each call does to both.
use Rattle.std.specs.Prelude.{◌≡◌, ◌≢◌, ◌⊎◌, ◌≤◌, ◌+◌, ℕ, Bool, IsTrue, min, max, List, ◌++◌, length, take, drop, Result, OnOk, OnErr}

-- the content of each file by its number; a file past the fourth is empty
abbrev pub Files : Type 0
Files = ℕ → List ℕ

-- what contracts know of a disk
pub record State : Type 1 where
  -- whether `seen` is what a read gives
  pub told : Bool
  pub seen : Files
  -- what a crash now may leave of one file; of all of them it may leave any choice (`Image`)
  pub may_leave : ℕ → List ℕ → Type 0
  -- a number that doesn't fall
  pub moment : ℕ
  -- what a crash at some moment since that one might have left
  pub left_since : ℕ → Files → Type 0
  -- how often the disk has failed; a count of 2^64 - 1 counts as risen
  pub faults : ℕ
  -- how often it has synced
  pub syncs : ℕ
  -- the least and the greatest length that each file had since its last sync
  pub least : ℕ → ℕ
  pub greatest : ℕ → ℕ

-- a crash now may leave these files
abbrev pub Image : State → Files → Type 0
Image s c = (k : ℕ) → s.may_leave k (c k)

-- a crash leaves what a read gives
abbrev pub SettledFile : State → ℕ → Type 0
SettledFile s k = (c : List ℕ) → s.may_leave k c → c ≡ s.seen k

-- nothing is unsynced
abbrev pub Settled : State → Type 0
Settled s = (k : ℕ) → SettledFile s k

-- old with these bytes at this place
abbrev pub overlaid : List ℕ → ℕ → List ℕ → List ℕ
overlaid old at bytes = take at old ++ bytes ++ drop (at + length bytes) old

-- after a write of n bytes that a crash cuts short: any bytes in the range and past the old end, the same elsewhere
pub record Torn (at n : ℕ) (old new : List ℕ) : Type 0 where
  pub before : take at new ≡ take at old
  pub after : drop (at + n) new ≡ drop (at + n) old
  pub no_shorter : length old ≤ length new
  pub no_longer : length new ≤ max (length old) (at + n)

-- after a cut to n bytes: the part past the new end may still be there, with any bytes
pub record CutTo (n : ℕ) (old new : List ℕ) : Type 0 where
  pub front : take n new ≡ take n old
  pub no_longer : length new ≤ length old

-- nothing of this file has changed
pub record SameFile (old new : State) (k : ℕ) : Type 0 where
  pub seen : new.seen k ≡ old.seen k
  pub no_more : (c : List ℕ) → new.may_leave k c → old.may_leave k c
  pub no_fewer : (c : List ℕ) → old.may_leave k c → new.may_leave k c
  pub least : new.least k ≡ old.least k
  pub greatest : new.greatest k ≡ old.greatest k

-- nothing of any file has changed
pub record SameFiles (old new : State) : Type 0 where
  pub told : new.told ≡ old.told
  pub files : (k : ℕ) → SameFile old new k

-- What a crash may leave of one file makes this step: exactly where the call answers Ok, and as far as the call
-- came where it failed. The other files stay.
pub record Steps {T E : Type 0} (step : List ℕ → List ℕ → Type 0) (file : ℕ) (result : Result T E) (old new : State) : Type 0 where
  pub told : new.told ≡ old.told
  pub no_more : (c : List ℕ) → new.may_leave file c → (d : List ℕ) × old.may_leave file d × step d c
  pub no_fewer : (c : List ℕ) → old.may_leave file c → new.may_leave file c
  pub all : OnOk result ((d c : List ℕ) → old.may_leave file d → step d c → new.may_leave file c)
  pub others : (k : ℕ) → k ≢ file → SameFile old new k

-- a write of these bytes at this place
pub record Writes {T E : Type 0} (file at : ℕ) (bytes : List ℕ) (result : Result T E) (old new : State) : Type 0 where
  pub steps : Steps (Torn at (length bytes)) file result old new
  pub written : OnOk result (IsTrue old.told → new.seen file ≡ overlaid (old.seen file) at bytes)
  pub least : new.least file ≡ old.least file
  pub greatest : OnOk result (new.greatest file ≡ max (old.greatest file) (at + length bytes))
  pub no_smaller : old.greatest file ≤ new.greatest file
  pub no_greater : new.greatest file ≤ max (old.greatest file) (at + length bytes)

-- a cut to this length
pub record Cuts {T E : Type 0} (file len : ℕ) (result : Result T E) (old new : State) : Type 0 where
  pub steps : Steps (CutTo len) file result old new
  pub cut : OnOk result (IsTrue old.told → new.seen file ≡ take len (old.seen file))
  pub greatest : new.greatest file ≡ old.greatest file
  pub least : OnOk result (new.least file ≡ min (old.least file) len)
  pub no_greater : new.least file ≤ old.least file
  pub no_smaller : min (old.least file) len ≤ new.least file

-- A sync of one file. Where it fails nothing is forgotten, and a read may give anything that a crash might leave.
pub record Syncs {T E : Type 0} (file : ℕ) (result : Result T E) (old new : State) : Type 0 where
  pub told : new.told ≡ old.told
  pub durable : OnOk result (SettledFile new file)
  pub seen : OnOk result (new.seen file ≡ old.seen file)
  pub no_more : (c : List ℕ) → new.may_leave file c → old.may_leave file c
  pub no_fewer : OnErr result ((c : List ℕ) → old.may_leave file c → new.may_leave file c)
  pub least : OnOk result (IsTrue old.told → new.least file ≡ length (old.seen file))
  pub greatest : OnOk result (IsTrue old.told → new.greatest file ≡ length (old.seen file))
  pub same_least : OnErr result (new.least file ≡ old.least file)
  pub same_greatest : OnErr result (new.greatest file ≡ old.greatest file)
  pub others : (k : ℕ) → k ≢ file → SameFile old new k

-- Time goes on: a crash since a moment before might have left what it might have left then, or since.
pub record Elapses (old new : State) : Type 0 where
  pub later : old.moment ≤ new.moment
  pub nothing_else : (t : ℕ) (c : Files) → t ≤ old.moment → new.left_since t c → old.left_since t c ⊎ new.left_since old.moment c
  pub keeps : (t : ℕ) (c : Files) → t ≤ old.moment → old.left_since t c → new.left_since t c
  pub adds : (t : ℕ) (c : Files) → t ≤ old.moment → new.left_since old.moment c → new.left_since t c

-- one call: a crash during it leaves what one before it or after it may leave
pub record Passes (old new : State) : Type 0 where
  pub time : Elapses old new
  pub during : (c : Files) → new.left_since old.moment c → Image old c ⊎ Image new c

-- a crash at any moment from the first state to the second leaves files that have P
abbrev pub LeavesOnly : State → State → (Files → Type 0) → Type 0
LeavesOnly old new P = (c : Files) → new.left_since old.moment c → P c

-- these bytes stand at this place of one file, and on the disk; the other files stay
pub record Patches (file at : ℕ) (bytes : List ℕ) (old new : State) : Type 0 where
  pub written : IsTrue old.told → new.seen file ≡ overlaid (old.seen file) at bytes
  pub settled : SettledFile new file
  pub others : (k : ℕ) → k ≢ file → SameFile old new k

-- files that a crash may leave during that, where the file was settled
pub record PatchedIn (file at n : ℕ) (old : State) (c : Files) : Type 0 where
  pub patched : Torn at n (old.seen file) (c file)
  pub others : (k : ℕ) → k ≢ file → old.may_leave k (c k)

-- files that a crash may leave during that, whatever the file was when it began
pub record TornIn (file at n : ℕ) (old : State) (c : Files) : Type 0 where
  pub was : List ℕ
  pub before : old.may_leave file was
  pub torn : Torn at n was (c file)
  pub others : (k : ℕ) → k ≢ file → old.may_leave k (c k)
