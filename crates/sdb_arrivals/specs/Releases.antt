-- How answers are held and released.
use Rattle.std.specs.Prelude.{ℕ, List, [], ◌∷◌, ◌++◌, Option, None, Some, map, take, drop}
use Rattle.sdb_arrivals.specs.declared.line.Queued.{Queued}
use Rattle.sdb_arrivals.specs.Queues.{Answered, Queues, Sent}
use Rattle.sdb_reply.specs.Faults.{fault_text}
use Rattle.sdb_reply.specs.declared.outcome.RequestId.{RequestId}
use Rattle.sdb_tables.specs.declared.refusal.Refusal.{Refusal}
use Rattle.sdb_tables.specs.declared.refusal.Refusal.TheVariants.{OutOfMemory}

-- what identifies an arrival
abbrev pub id_of : Queued → RequestId
id_of w = record { conn = w.conn; number = w.number }

-- the response to an arrival that is refused
abbrev pub refusal_bytes : Refusal → Queued → List ℕ
refusal_bytes refusal w = fault_text refusal (id_of w) w.close

-- an arrival that is refused
abbrev pub refused_as : Refusal → Queued → Sent
refused_as refusal w = record { conn = w.conn; bytes = refusal_bytes refusal w; close = w.close }

-- the response to an arrival that was executed: without memory it is that refusal
abbrev pub answer_bytes : Option (List ℕ) → Queued → List ℕ
answer_bytes (Some bytes) w = bytes
answer_bytes None w = refusal_bytes OutOfMemory w

-- an arrival that is answered as it was executed, or refused after all
abbrev pub released_as : Option Refusal → Answered → Sent
released_as None a = record { conn = a.queued.conn; bytes = answer_bytes a.answer a.queued; close = a.queued.close }
released_as (Some refusal) a = refused_as refusal a.queued

-- the first that waits is executed and held
abbrev pub held_next : Option (List ℕ) → List Queued → Queues → Queues
held_next answer [] q = q
held_next answer (w ∷ ws) q =
    record { held = q.held ++ record { queued = w; answer = answer } ∷ []; waiting = ws; out = q.out }

-- all that are held are released
abbrev pub all_released : Option Refusal → Queues → Queues
all_released refusal q = record { held = []; waiting = q.waiting; out = q.out ++ map (released_as refusal) q.held }

-- the first 64 that wait are refused
abbrev pub refused_first : Refusal → Queues → Queues
refused_first refusal q =
    record { held = q.held; waiting = drop 64 q.waiting; out = q.out ++ map (refused_as refusal) (take 64 q.waiting) }
