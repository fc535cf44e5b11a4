-- The line of a core as contracts see it.
use Rattle.std.specs.Prelude.{ℕ, Bool, List, [], ◌∷◌, ◌++◌, Option, option_map, take}
use Rattle.sdb_base.specs.declared.out.Out.{Out}
use Rattle.sdb_http.specs.Messages.{is_last}
use Rattle.sdb_arrivals.specs.declared.line.Held.{Held}
use Rattle.sdb_arrivals.specs.declared.line.Queued.{Queued}
use Rattle.sdb_arrivals.specs.declared.line.Waiting.{Waiting}
use Rattle.sdb_arrivals.specs.Story.{Arrival}

-- an answer that is sent, to a connection that may be closed after it
pub record Sent : Type 0 where
  pub conn : ℕ
  pub bytes : List ℕ
  pub close : Bool

-- an arrival that was executed, and its answer, where there was memory for it
pub record Answered : Type 0 where
  pub queued : Queued
  pub answer : Option (List ℕ)

-- the answers that are held, the arrivals that wait and the answers that are released
pub record Queues : Type 0 where
  pub held : List Answered
  pub waiting : List Queued
  pub out : List Sent

-- what contracts see of an answer on its way
abbrev pub sent_of : Out → Sent
sent_of out = record { conn = out.conn; bytes = out.bytes.bytes; close = out.close }

-- of a held answer
abbrev pub answered_of : Held → Answered
answered_of held = record { queued = held.queued; answer = option_map (λ b. b.bytes) held.answer }

-- of an arrival that waits
abbrev pub queued_of : Waiting → Queued
queued_of waiting = waiting.queued

-- an arrival of a story, as it stands in the line
abbrev pub in_line : Arrival → Queued
in_line w = record {
  conn = w.framed.conn;
  number = w.framed.number;
  moment = w.framed.moment;
  close = is_last w.framed.request;
  read = w.read;
}

-- nothing waits
abbrev pub no_queues : Queues
no_queues = record { held = []; waiting = []; out = [] }

-- with these arrivals behind those that wait
abbrev pub with_waiting : Queues → List Queued → Queues
with_waiting q more = record { held = q.held; waiting = q.waiting ++ more; out = q.out }

-- with the first so many of those that wait
abbrev pub without_newest : ℕ → Queues → Queues
without_newest had q = record { held = q.held; waiting = take had q.waiting; out = q.out }

-- with an answer before those that are released
abbrev pub with_out : Sent → Queues → Queues
with_out sent q = record { held = q.held; waiting = q.waiting; out = sent ∷ q.out }
