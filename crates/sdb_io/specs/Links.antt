-- Connections as everything above them sees them: what comes, what was sent, and what each call does to both.
use Rattle.std.specs.Prelude.{◌≡◌, ◌≢◌, ◌⊎◌, ◌<◌, ◌≤◌, ℕ, Bool, ◌==◌, if◌then◌else◌, min, List, [], ◌∷◌, ◌++◌, length, take, drop, Option, Some}
use Rattle.sdb_io.specs.declared.links.LinkEvent.{LinkEvent}
use Rattle.sdb_io.specs.declared.links.LinkEvent.TheVariants.{Opened, Piece, Ended, Closed}

-- a step of what comes: a connection opens, gives bytes or ends, or nothing comes any more
pub data Step : Type 0 where
  opens : (conn : ℕ) → Step
  gives : (conn : ℕ) (bytes : List ℕ) → Step
  ends : (conn : ℕ) → Step
  closes : Step

-- whether a connection was opened, and closed then
pub data Stage : Type 0 where
  unopened : Stage
  opened : Stage
  closed : Stage

-- what contracts know of connections
pub record State : Type 0 where
  -- whether the port, the steps to come, what was sent and the stages are known
  pub told : Bool
  -- the port that is bound
  pub port : Option ℕ
  pub to_come : List Step
  -- the bytes sent on each connection
  pub sent : ℕ → List ℕ
  pub stage : ℕ → Stage
  -- the number of the last connection that was opened, or 0
  pub last : ℕ
  -- how often the connections have failed; a count of 2^64 - 1 counts as risen
  pub faults : ℕ

-- a piece names 1 to so many bytes
abbrev pub IsWithin : ℕ → LinkEvent → Type 0
IsWithin room (Opened c) = Unit {0}
IsWithin room (Piece c n) = (0 < n) × (n ≤ room)
IsWithin room (Ended c) = Unit {0}
IsWithin room Closed = Unit {0}

-- a connection that opens has a number above the last one
abbrev pub IsLater : ℕ → LinkEvent → Type 0
IsLater last (Opened c) = last < c
IsLater last (Piece c n) = Unit {0}
IsLater last (Ended c) = Unit {0}
IsLater last Closed = Unit {0}

-- the number of the last connection that was opened, after an event
abbrev pub last_after : LinkEvent → ℕ → ℕ
last_after (Opened c) last = c
last_after (Piece c n) last = last
last_after (Ended c) last = last
last_after Closed last = last

-- the rest of a piece, and the steps behind it
abbrev pub with_rest : ℕ → List ℕ → List Step → List Step
with_rest c [] steps = steps
with_rest c (b ∷ bs) steps = gives c (b ∷ bs) ∷ steps

-- An event gives the first step and takes it off. A piece that is longer than the buffer gives its front there,
-- and leaves its rest. After the last step nothing comes any more.
abbrev pub Gives : LinkEvent → List ℕ → List Step → List Step → Type 0
Gives (Opened c) buf old new = old ≡ opens c ∷ new
Gives (Piece c n) buf old new = (bytes : List ℕ) × (rest : List Step) × (old ≡ gives c bytes ∷ rest)
    × (n ≡ min (length buf) (length bytes)) × (take n buf ≡ take n bytes) × (new ≡ with_rest c (drop n bytes) rest)
Gives (Ended c) buf old new = old ≡ ends c ∷ new
Gives Closed buf old new = (old ≡ closes ∷ new) ⊎ ((old ≡ []) × (new ≡ []))

-- a connection that opens wasn't opened before
abbrev pub IsUnopened : LinkEvent → (ℕ → Stage) → Type 0
IsUnopened (Opened c) stage = stage c ≡ unopened
IsUnopened (Piece c n) stage = Unit {0}
IsUnopened (Ended c) stage = Unit {0}
IsUnopened Closed stage = Unit {0}

-- the stages after an event
abbrev pub stages_after : LinkEvent → (ℕ → Stage) → ℕ → Stage
stages_after (Opened c) stage k = if k == c then opened else stage k
stages_after (Piece c n) stage k = stage k
stages_after (Ended c) stage k = stage k
stages_after Closed stage k = stage k

-- an opened connection is closed; any other stays as it is
abbrev pub closed_after : Stage → Stage
closed_after unopened = unopened
closed_after opened = closed
closed_after closed = closed

-- nothing that is told has changed
pub record Stays (old new : State) : Type 0 where
  pub port : new.port ≡ old.port
  pub to_come : new.to_come ≡ old.to_come
  pub sent : (k : ℕ) → new.sent k ≡ old.sent k
  pub stage : (k : ℕ) → new.stage k ≡ old.stage k

-- the port is bound
pub record Binds (number : ℕ) (old new : State) : Type 0 where
  pub port : new.port ≡ Some number
  pub to_come : new.to_come ≡ old.to_come
  pub sent : (k : ℕ) → new.sent k ≡ old.sent k
  pub stage : (k : ℕ) → new.stage k ≡ old.stage k

-- the event came, a piece with its bytes at the buffer's front
pub record Comes (event : LinkEvent) (buf : List ℕ) (old new : State) : Type 0 where
  pub given : Gives event buf old.to_come new.to_come
  pub unopened : IsUnopened event old.stage
  pub stage : (k : ℕ) → new.stage k ≡ stages_after event old.stage k
  pub port : new.port ≡ old.port
  pub sent : (k : ℕ) → new.sent k ≡ old.sent k

-- these bytes were sent on the connection
pub record Sends (conn : ℕ) (bytes : List ℕ) (old new : State) : Type 0 where
  pub sent : new.sent conn ≡ old.sent conn ++ bytes
  pub others : (k : ℕ) → k ≢ conn → new.sent k ≡ old.sent k
  pub port : new.port ≡ old.port
  pub to_come : new.to_come ≡ old.to_come
  pub stage : (k : ℕ) → new.stage k ≡ old.stage k

-- a front of these bytes was sent on the connection
abbrev pub SendsFront : ℕ → List ℕ → State → State → Type 0
SendsFront conn bytes old new = (n : ℕ) × (n ≤ length bytes) × Sends conn (take n bytes) old new

-- the connection was closed, where it was opened
pub record Closes (conn : ℕ) (old new : State) : Type 0 where
  pub stage : new.stage conn ≡ closed_after (old.stage conn)
  pub others : (k : ℕ) → k ≢ conn → new.stage k ≡ old.stage k
  pub port : new.port ≡ old.port
  pub to_come : new.to_come ≡ old.to_come
  pub sent : (k : ℕ) → new.sent k ≡ old.sent k
