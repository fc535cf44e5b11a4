-- What was sent on each connection, and which were closed.
use Rattle.std.specs.Prelude.{◌≡◌, ◌≢◌, ◌≤◌, ◌+◌, ◌-◌, ◌^◌, min, ℕ, Bool, true, false, ◌||◌, ◌&&◌, ◌==◌, List, [], ◌∷◌, ◌++◌, length, map, take, Option, Some, None, IsTrue, if◌then◌else◌}
use Rattle.sdb_arrivals.specs.Queues.{Sent}
use Rattle.sdb_arrivals.specs.Story.{Step}
use Rattle.sdb_io.specs.Links as links
use Rattle.sdb_io.specs.Links.{Stage, opened, closed, closed_after}
use Rattle.sdb_core.specs.Ledgers.{Opening, released, sent_by}
use Rattle.sdb_core.specs.Told.{RoseBy}
use Rattle.sdb_serve.specs.Acts.{Act, came_full, has_come, is_lost, story_of}

-- the answers of a story, in the order in which they are released
abbrev pub answers : Opening → List Step → List Sent
answers o story = map sent_by (released o story)

-- the bytes of the answers to a connection
abbrev pub bytes_to : ℕ → List Sent → List ℕ
bytes_to k [] = []
bytes_to k (x ∷ xs) = if k == x.conn then x.bytes ++ bytes_to k xs else bytes_to k xs

-- a connection is closed after one of the answers
abbrev pub is_closing : ℕ → List Sent → Bool
is_closing k [] = false
is_closing k (x ∷ xs) = ((k == x.conn) && x.close) || is_closing k xs

-- these bytes were sent since; of a connection on which a send failed, a front of them
abbrev pub IsSent : Bool → (before now whole : List ℕ) → Type 0
IsSent false before now whole = now ≡ before ++ whole
IsSent true before now whole = (n : ℕ) × (n ≤ length whole) × (now ≡ before ++ take n whole)

-- the stage of a connection, by whether it opened and whether it was closed
abbrev pub in_stage : Bool → Bool → Stage → Stage
in_stage false shut before = before
in_stage true false before = opened
in_stage true true before = closed

-- a connection is closed where a send on it failed, where it was one too many, or after an answer that says so
abbrev pub is_shut : ℕ → Opening → List Act → Bool
is_shut k o acts = is_lost k acts || came_full k (story_of acts) || is_closing k (answers o (story_of acts))

-- all these answers go to one connection
abbrev pub AllTo : ℕ → List Sent → Type 0
AllTo k [] = Unit {0}
AllTo k (x ∷ xs) = (x.conn ≡ k) × AllTo k xs

-- the connection that a send was lost on, if any
abbrev pub lost_on : ℕ → Bool → Option ℕ
lost_on k false = None
lost_on k true = Some k

-- of one connection these bytes were sent, and it is closed or not
pub record OnConn (k : ℕ) (before whole : List ℕ) (gone shut : Bool) (now : links.State) : Type 0 where
  pub sent : IsSent gone before (now.sent k) whole
  pub stage : now.stage k ≡ in_stage true shut opened
  pub gone_shut : gone ≡ true → shut ≡ true

-- nothing of another connection has changed, nor what comes
pub record Others (k : ℕ) (old new : links.State) : Type 0 where
  pub port : new.port ≡ old.port
  pub to_come : new.to_come ≡ old.to_come
  pub sent : (c : ℕ) → c ≢ k → new.sent c ≡ old.sent c
  pub stage : (c : ℕ) → c ≢ k → new.stage c ≡ old.stage c

-- how many more connections are lost
abbrev pub newly : Bool → Bool → ℕ
newly false false = 0
newly false true = 1
newly true gone = 0

-- The answers to a connection were sent in order. After a send that fails the connection is lost: it is closed, and
-- no further answer is sent to it.
pub record SendsAll (k : ℕ) (outs : List Sent) (gone : Bool) (result : Option ℕ) (old new : links.State) : Type 0 where
  pub now_gone : Bool
  pub is : result ≡ lost_on k now_gone
  pub kept : gone ≡ true → now_gone ≡ true
  pub counted : RoseBy (newly gone now_gone) old.faults new.faults
  pub on : IsTrue old.told → (before whole : List ℕ) (shut : Bool) → OnConn k before whole gone shut old
      → OnConn k before (whole ++ bytes_to k outs) now_gone (shut || now_gone || is_closing k outs) new
  pub others : IsTrue old.told → Others k old new

-- one answer was sent whole, or a front of it, and its connection is closed then
pub record SendsOne (x : Sent) (failed : Bool) (old new : links.State) : Type 0 where
  pub sent : IsSent failed (old.sent x.conn) (new.sent x.conn) x.bytes
  pub stage : new.stage x.conn ≡ (if x.close || failed then closed_after (old.stage x.conn) else old.stage x.conn)
  pub others : Others x.conn old new
