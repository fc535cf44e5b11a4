-- What a feed knows of the bytes that it keeps.
use Rattle.std.specs.Prelude.{◌≡◌, ℕ, ◌+◌, ◌<◌, ◌≤◌, List, [], ◌++◌, length, take, drop, Bool, false, Option, Some, Result, Ok, Err, MatchOption, option_map, if◌then◌else◌, ⊤}
use Rattle.sdb_http.specs.declared.fault.HttpFault.{HttpFault}
use Rattle.sdb_http.specs.declared.feed.Front.{Front}
use Rattle.sdb_http.specs.declared.feed.Mark.{Mark}
use Rattle.sdb_http.specs.declared.look.Known.{Known}
use Rattle.sdb_http.specs.declared.look.Known.TheVariants.{Scanned, Judged}
use Rattle.sdb_http.specs.declared.look.Found.{Found}
use Rattle.sdb_http.specs.declared.look.Found.TheVariants.{More, Fault, Whole}
use Rattle.sdb_http.specs.declared.layout.Layout.{Layout}
use Rattle.sdb_http.specs.declared.message.Message.{Message}
use Rattle.sdb_http.specs.Feeds.{HasNone}
use Rattle.sdb_http.specs.Layouts.{IsLayoutWithin, shape_at}
use Rattle.sdb_http.specs.Messages.{HasHead, IsFront, Reply, Seen, closes_head, trim}

-- the bytes begin with a lawful head, and the layout says where its parts are
pub record HasLayout (held : List ℕ) (last : ℕ) (l : Layout) : Type 0 where
  pub head : HasHead held last (Ok (shape_at (take (last + 1) held) l))
  pub within : IsLayoutWithin (last + 1) l

-- no head ends before that place
pub record IsScanned (held : List ℕ) (n : ℕ) : Type 0 where
  pub within : n ≤ length held
  pub none : (k : ℕ) → k < n → closes_head held k ≡ false

-- no head ends from one place up to another
abbrev pub HasNoEnd : List ℕ → ℕ → ℕ → Type 0
HasNoEnd held from to = (k : ℕ) → from ≤ k → k < to → closes_head held k ≡ false

-- what is known of the head at the front is true
abbrev pub IsKnown : List ℕ → Known → Type 0
IsKnown held (Scanned n) = IsScanned held n
IsKnown held (Judged last l) = HasLayout held last l

-- what a look at the held bytes finds
abbrev pub Looks : List ℕ → Found → Type 0
Looks held (More known) = IsKnown held known × HasNone held
Looks held (Fault fault) = IsFront held (Err fault) []
Looks held (Whole last l) = HasLayout held last l × (last + 1 + l.length ≤ length held)

-- the bytes from the front on
abbrev pub held_from : List ℕ → Front → List ℕ
held_from bytes front = drop front.start bytes

-- a front stands within the bytes, at no CR or LF, and what it knows is true
pub record IsFrontOf (bytes : List ℕ) (front : Front) : Type 0 where
  pub start : front.start ≤ length bytes
  pub trimmed : trim (held_from bytes front) ≡ held_from bytes front
  pub known : IsKnown (held_from bytes front) front.known

-- a mark stands within the bytes, and its front is one of the bytes before it
pub record IsMarkOf (bytes : List ℕ) (mark : Mark) : Type 0 where
  pub len : mark.len ≤ length bytes
  pub at_front : IsFrontOf (take mark.len bytes) mark.front

-- the front and the mark of a feed are true of its bytes
pub record IsFeed (bytes : List ℕ) (front : Front) (mark : Option Mark) : Type 0 where
  pub at_front : IsFrontOf bytes front
  pub at_mark : MatchOption mark ⊤ (IsMarkOf bytes)

-- what is held; after an end nothing is
abbrev pub held_by : List ℕ → Front → Bool → List ℕ
held_by bytes front ended = if ended then [] else held_from bytes front

-- what was held before the last push, and whether the feed had ended
abbrev pub before_by : List ℕ → Option Mark → Option (List ℕ × Bool)
before_by bytes mark = option_map (λ m. (held_by (take m.len bytes) m.front m.ended, m.ended)) mark

-- the same front, at the start of the bytes
abbrev pub at_start : Front → Front
at_start front = record { start = 0; known = front.known }

-- a mark at the front
abbrev pub mark_at : Front → ℕ → Bool → Mark
mark_at front len ended = record { front = front; len = len; ended = ended }

-- the bytes, the front and the mark that a push of the piece leaves, where so much was held
pub record IsPushed (held piece bytes : List ℕ) (at : Front) (len : ℕ) : Type 0 where
  pub feed : IsFeed bytes at (Some (mark_at at len false))
  pub now : held_from bytes at ≡ trim (held ++ piece)
  pub before : held_from (take len bytes) at ≡ held

-- a message, as contracts see it
abbrev pub seen : Message → Seen
seen m = record { verb = m.verb; host = m.host.bytes; form = m.form.bytes; close = m.close }

-- the reply that a value of the program stands for
abbrev pub reply_of : Result Message HttpFault → Reply
reply_of (Ok m) = Ok (seen m)
reply_of (Err fault) = Err fault

-- the answer of a take
abbrev pub taken : Option (Result Message HttpFault) → Option Reply
taken answer = option_map reply_of answer
