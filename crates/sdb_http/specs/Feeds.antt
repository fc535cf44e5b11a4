-- What a feed has given and can give, after any list of pushes, takes and backs.
use Rattle.std.specs.Prelude.{◌≡◌, ℕ, ◌+◌, List, [], ◌∷◌, ◌++◌, length, Bool, true, false, Option, Some, None, MatchOption, if◌then◌else◌, ◌⊎◌}
use Rattle.sdb_http.specs.Messages.{IsFront, Reply, is_last, trim}

-- a feed as contracts see it: the bytes that it holds, without CR and LF at their front; whether a fault or
-- a closing message was taken, after which it holds nothing; and both as they were before the last push,
-- where it can go back to it
pub record State : Type 0 where
  pub held : List ℕ
  pub ended : Bool
  pub before : Option (List ℕ × Bool)

-- the bytes are these replies one after the other, and then what is held
abbrev pub Reads : List ℕ → List Reply → List ℕ → Bool → Type 0
Reads bytes [] held ended = (trim bytes ≡ held) × (ended ≡ false)
Reads bytes (reply ∷ replies) held ended =
    (rest : List ℕ) × IsFront bytes reply rest
    × (((is_last reply ≡ true) × (replies ≡ []) × (held ≡ []) × (ended ≡ true))
    ⊎ ((is_last reply ≡ false) × Reads rest replies held ended))

-- no message and no fault stands at the front
abbrev pub HasNone : List ℕ → Type 0
HasNone bytes = (reply : Reply) (rest : List ℕ) → IsFront bytes reply rest → ⊥

-- the replies are all that the bytes have: the messages, and at most one fault, last
abbrev pub AreAll : List ℕ → List Reply → Type 0
AreAll bytes replies =
    (held : List ℕ) × (ended : Bool) × Reads bytes replies held ended × (ended ≡ false → HasNone held)

-- a call on a feed
pub data Call : Type 0 where
  Pushed : List ℕ → Call
  Took : Option Reply → Call
  Back : Call

-- the calls before the last push; the newest call stands first
abbrev pub before_push : List Call → List Call
before_push [] = []
before_push (Pushed piece ∷ past) = past
before_push (Took answer ∷ past) = before_push past
before_push (Back ∷ past) = before_push past

-- the calls that are left, where each back strikes out the last push and the takes after it
abbrev pub left : List Call → List Call
left [] = []
left (Pushed piece ∷ past) = Pushed piece ∷ left past
left (Took answer ∷ past) = Took answer ∷ left past
left (Back ∷ past) = before_push (left past)

-- there was a push, and no back after it
abbrev pub can_go_back : List Call → Bool
can_go_back [] = false
can_go_back (Pushed piece ∷ past) = true
can_go_back (Took answer ∷ past) = can_go_back past
can_go_back (Back ∷ past) = false

-- the pieces, joined
abbrev pub joined : List Call → List ℕ
joined [] = []
joined (Pushed piece ∷ past) = joined past ++ piece
joined (Took answer ∷ past) = joined past
joined (Back ∷ past) = joined past

-- the replies that were taken, the oldest first
abbrev pub given : List Call → List Reply
given [] = []
given (Pushed piece ∷ past) = given past
given (Took None ∷ past) = given past
given (Took (Some reply) ∷ past) = given past ++ reply ∷ []
given (Back ∷ past) = given past

-- the pieces that calls left, joined, are the replies that were taken, and then what is held
abbrev pub ReadsCalls : List Call → List ℕ → Bool → Type 0
ReadsCalls calls held ended = Reads (joined calls) (given calls) held ended

-- the state is that of a feed with this past
pub record StandsFor (s : State) (past : List Call) : Type 0 where
  pub now : ReadsCalls (left past) s.held s.ended
  pub back : MatchOption s.before (can_go_back past ≡ false)
      (λ b. (can_go_back past ≡ true) × ReadsCalls (before_push (left past)) b.0 b.1)

-- what is held after a piece more
abbrev pub held_after : List ℕ → Bool → List ℕ → List ℕ
held_after held ended piece = if ended then [] else trim (held ++ piece)

-- a push appends, unless the feed has ended
abbrev pub pushed : State → List ℕ → State
pushed s piece =
    record { held = held_after s.held s.ended piece; ended = s.ended; before = Some (s.held, s.ended) }

-- a take takes off the reply at the front; none comes exactly where none is there, or the feed has ended
abbrev pub Takes : State → Option Reply → State → Type 0
Takes old None new = (new ≡ old) × (old.ended ≡ false → HasNone old.held)
Takes old (Some reply) new =
    (old.ended ≡ false) × (rest : List ℕ) × IsFront old.held reply rest
    × (new ≡ record { held = if is_last reply then [] else trim rest; ended = is_last reply; before = old.before })

-- back to what was before the last push
abbrev pub GoesBack : State → State → Type 0
GoesBack old new =
    MatchOption old.before ⊥ (λ b. new ≡ record { held = b.0; ended = b.1; before = None })

-- an empty feed
abbrev pub empty_feed : State
empty_feed = record { held = []; ended = false; before = None }

-- how much a loop over takes has left
abbrev pub work : State → ℕ
work s = if s.ended then 0 else length s.held + 1
