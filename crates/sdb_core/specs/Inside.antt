-- What the parts of a core do: executing, opening again, commits.
use Rattle.std.specs.Prelude.{◌≡◌, ℕ, ◌+◌, ◌*◌, ◌≤◌, Bool, true, false, IsTrue, List, [], ◌++◌, length, map, Option, None, Some}
use Rattle.sdb_arrivals.specs.declared.line.Queued.{Queued}
use Rattle.sdb_arrivals.specs.Queues.{Queues}
use Rattle.sdb_arrivals.specs.Reading.{AreRead}
use Rattle.sdb_arrivals.specs.Story.{Answer, Done, NotAStore, Event, Piece, Arrival}
use Rattle.sdb_arrivals.specs.Tables.{Connections, Turns}
use Rattle.sdb_disk.specs.Disk.{State}
use Rattle.sdb_keys.specs.declared.keys.Key.{Key}
use Rattle.sdb_pairs.specs.Changes.{state}
use Rattle.sdb_record.specs.Spelling.{spelling}
use Rattle.sdb_respond.specs.Staged.{most_spelled}
use Rattle.sdb_store.specs.Kept.{Contents}
use Rattle.sdb_core.specs.Kept.{Agrees, Holds, View}
use Rattle.sdb_core.specs.Ledgers.{Ledger, Opening, allowed_in, allowed_of, allows, arrived, filled, if_sound, reopened, where_sound}
use Rattle.sdb_respond.specs.Reply.{reply_in_line}
use Rattle.sdb_core.specs.Told.{Makes, step_of}

-- ---- sizes

-- each answer that is held has at most so many bytes of changes; nothing is pending in a store that isn't sound
pub record HasRoom (line : Queues) (store : Contents) : Type 0 where
  pub size : length (spelling store.pending) ≤ 4 + length line.held * most_spelled
  pub none : store.sound ≡ false → store.pending ≡ []

-- how many arrivals a line has in hand
abbrev pub hand_of : Queues → ℕ
hand_of line = length line.held + length line.waiting

-- what is true of every core: the changes that are held fit into one group, and what is in hand has arrived
pub record IsCore (k : View) : Type 0 where
  pub room : HasRoom k.line k.store
  pub hand : hand_of k.line ≤ k.table.arrived

-- ---- executing

-- what was staged: the changes of the reply, over the accounts as they were
pub record Stages (bytes : List ℕ) (w : Queued) (old new : Contents) : Type 0 where
  pub bytes_are : bytes ≡ (reply_in_line old.accounts w).0
  pub accounts : new.accounts ≡ state old.accounts (reply_in_line old.accounts w).1
  pub pending : new.pending ≡ old.pending ++ (reply_in_line old.accounts w).1
  pub journal : new.journal ≡ old.journal
  pub sound : new.sound ≡ old.sound

-- a request that was executed: its reply is the answer and is staged, or there was no memory for it
abbrev pub ExecutesTo : Option (List ℕ) → Queued → Contents → Contents → Type 0
ExecutesTo None w old new = new ≡ old
ExecutesTo (Some bytes) w old new = Stages bytes w old new

-- requests were executed, until 64 answers are held or none waits
pub record Fills (line : Queues) (store : Contents) (next : Queues) (after : Contents) (first last : ℕ) : Type 0 where
  pub refused : List Bool
  pub out : next.out ≡ line.out
  pub journal : after.journal ≡ store.journal
  pub sound : after.sound ≡ true
  pub hand : hand_of next ≡ hand_of line
  pub all : (o : Opening) (l : Ledger) → Agrees line store o l → Agrees next after o (filled o refused l)
  pub looks : (o : Opening) (l : Ledger) → Agrees line store o l → last ≤ first + allowed_in o refused l

-- the same, where the store is sound
pub record FillsIf (line : Queues) (store : Contents) (next : Queues) (after : Contents) (first last : ℕ) : Type 0 where
  pub refused : List Bool
  pub out : next.out ≡ line.out
  pub journal : after.journal ≡ store.journal
  pub sound : after.sound ≡ store.sound
  pub hand : hand_of next ≡ hand_of line
  pub all : (o : Opening) (l : Ledger) → Agrees line store o l → Agrees next after o (if_sound l.sound (filled o refused l) l)
  pub looks : (o : Opening) (l : Ledger) → Agrees line store o l → last ≤ first + allowed_of o refused (where_sound l.sound l)

-- ---- opening again

-- the store was opened again, and requests were executed
pub record Reopens (told : Bool) (line : Queues) (store : Contents) (before : State) (next : Queues) (after : Contents) (now : State) (first last : ℕ) : Type 0 where
  pub refused : List Bool
  pub out : next.out ≡ line.out
  pub sound : after.sound ≡ true
  pub all : IsTrue told → (o : Opening) (l : Ledger) → Holds line store before o l
      → Holds next after now o (filled o refused (reopened o after.journal.sequence l))
  pub looks : IsTrue told → (o : Opening) (l : Ledger) → Holds line store before o l
      → last ≤ first + allowed_in o refused (reopened o after.journal.sequence l)

-- the store wasn't
pub record StaysLost (told : Bool) (line : Queues) (store : Contents) (before : State) (next : Queues) (after : Contents) (now : State) (first last : ℕ) : Type 0 where
  pub none : last ≡ first
  pub line_is : next ≡ line
  pub sound : after.sound ≡ false
  pub all : IsTrue told → (o : Opening) (l : Ledger) → Holds line store before o l → Holds next after now o l

-- ---- parts of a step

-- an event's effect on queues and store, of every ledger
pub record MakesAll (e : Event) (a : Answer) (came : List Arrival) (told : Bool) (line : Queues) (store : Contents) (before : State) (next : Queues) (after : Contents) (now : State) (first last : ℕ) : Type 0 where
  pub refused : List Bool
  pub all : IsTrue told → (o : Opening) (l : Ledger) → Holds line store before o l
      → Makes (step_of e a after now came refused) line next after before now o l
  pub looks : IsTrue told → (o : Opening) (l : Ledger) → Holds line store before o l → last ≤ first + allows o (step_of e a after now came refused) l

-- a piece that came: what it made whole was read, and went to the end of the line; then requests were executed
pub record Comes (keys : List Key) (conn moment : ℕ) (bytes : List ℕ) (table : Connections) (line : Queues) (store : Contents) (t : Connections) (next : Queues) (after : Contents) (first last : ℕ) : Type 0 where
  pub came : List Arrival
  pub refused : List Bool
  pub are_read : AreRead keys came
  pub turns : Turns (Piece conn moment bytes) Done 0 (map (λ (w : Arrival). w.framed) came) table t
  pub out : next.out ≡ line.out
  pub journal : after.journal ≡ store.journal
  pub sound : after.sound ≡ store.sound
  pub all : (o : Opening) (l : Ledger) → Agrees line store o l
      → Agrees next after o (if_sound l.sound (filled o refused (arrived came l)) (arrived came l))
  pub looks : (o : Opening) (l : Ledger) → Agrees line store o l → last ≤ first + allowed_of o refused (where_sound l.sound (arrived came l))

-- such files stood for accounts, so no file is told to be bad
abbrev pub IsSure : (told : Bool) → Answer → Queues → Contents → State → Type 0
IsSure told a line store before = IsTrue told → (o : Opening) (l : Ledger) → Holds line store before o l → (k : ℕ) → a ≡ NotAStore k → ⊥
