-- The messages of a byte stream (RFC 9112, section 2): which message or fault stands at the front of bytes.
use Rattle.std.specs.Prelude.{◌≡◌, ℕ, ◌+◌, ◌-◌, ◌<◌, ◌≤◌, List, [], ◌∷◌, ◌++◌, length, take, drop, slice_index, Bool, true, false, ◌&&◌, ◌||◌, ◌==◌, nat_le, Result, Ok, Err, if◌then◌else◌, ◌⊎◌}
use Rattle.sdb_base.specs.declared.verb.Verb.{Verb}
use Rattle.sdb_base.specs.declared.verb.Verb.TheVariants.{Get, Post}
use Rattle.sdb_http.specs.declared.fault.HttpFault.{HttpFault}
use Rattle.sdb_http.specs.declared.fault.HttpFault.TheVariants.{HeadTooLong}
use Rattle.sdb_http.specs.Heads.{Judged, Shape, Verdict}

-- CR or LF
abbrev pub is_newline : ℕ → Bool
is_newline b = b == 10 || b == 13

-- the bytes without the CR and LF at their front, which are skipped before a head
abbrev pub trim : List ℕ → List ℕ
trim [] = []
trim (b ∷ bytes) = if is_newline b then trim bytes else b ∷ bytes

-- the byte at `at` closes a blank line: it is an LF, and before it stand an LF, or an LF and a CR
abbrev pub closes_head : List ℕ → ℕ → Bool
closes_head bytes at =
    slice_index bytes at == 10
    && ((nat_le 1 at && slice_index bytes (at - 1) == 10)
    || (nat_le 2 at && slice_index bytes (at - 1) == 13 && slice_index bytes (at - 2) == 10))

-- a head has at most so many bytes
abbrev pub head_limit : ℕ
head_limit = 16384

-- the bytes begin with a head whose last byte, that of its first blank line, stands at `last`
pub record EndsAt (bytes : List ℕ) (last : ℕ) : Type 0 where
  pub within : last < length bytes
  pub closes : closes_head bytes last ≡ true
  pub first : (k : ℕ) → k < last → closes_head bytes k ≡ false

-- no head ends within the limit
pub record IsTooLong (bytes : List ℕ) : Type 0 where
  pub reached : head_limit ≤ length bytes
  pub none : (k : ℕ) → k < head_limit → closes_head bytes k ≡ false

-- the bytes begin with a head of lawful size, whose verdict is this
pub record HasHead (bytes : List ℕ) (last : ℕ) (v : Verdict) : Type 0 where
  pub ends_at : EndsAt bytes last
  pub short : last < head_limit
  pub judged : Judged (take (last + 1) bytes) v

-- a message as contracts see it
pub record Seen : Type 0 where
  pub verb : Verb
  pub host : List ℕ
  pub form : List ℕ
  pub close : Bool

-- a message, or the fault that is answered in its place
abbrev pub Reply : Type 0
Reply = Result Seen HttpFault

-- the form is the query of a GET and the body of a POST
abbrev pub form_of : Verb → List ℕ → List ℕ → List ℕ
form_of Get query body = query
form_of Post query body = body

-- the message of a head and its body
abbrev pub message_of : Shape → List ℕ → Seen
message_of shape body =
    record { verb = shape.verb; host = shape.host; form = form_of shape.verb shape.query body; close = shape.close }

-- after a fault, or a message that closes, nothing more is read
abbrev pub is_last : Reply → Bool
is_last (Ok m) = m.close
is_last (Err fault) = true

-- the bytes are a body of so many bytes and then rest, and the message is that of the shape and this body
pub record HasBody (bytes : List ℕ) (shape : Shape) (m : Seen) (rest : List ℕ) : Type 0 where
  pub body : List ℕ
  pub cut : bytes ≡ body ++ rest
  pub size : length body ≡ shape.length
  pub message : m ≡ message_of shape body

-- the reply stands at the front of the bytes, and rest follows it; what follows a fault is never read
unfoldable pub IsFront : List ℕ → Reply → List ℕ → Type 0
IsFront bytes (Ok m) rest =
    (last : ℕ) × (shape : Shape) × HasHead (trim bytes) last (Ok shape)
    × HasBody (drop (last + 1) (trim bytes)) shape m rest
IsFront bytes (Err fault) rest =
    (IsTooLong (trim bytes) × (fault ≡ HeadTooLong)) ⊎ ((last : ℕ) × HasHead (trim bytes) last (Err fault))
