-- What a replay writes: the records of the answers that are released, in order, each followed by the closing of its connection
-- where the server closes it; and the closing of a connection that it refuses.
use Rattle.std.specs.Prelude.{ℕ, Bool, true, false, List, [], ◌∷◌, ◌++◌, map}
use Rattle.std.specs.List.{flat_map}
use Rattle.sdb_arrivals.specs.Queues.{Sent}
use Rattle.sdb_arrivals.specs.Story.{Answer, Done, Full, Disk, NotAStore, OutOfMemory, Event, Opened, Piece, Ended, Commit, Work, Step}
use Rattle.sdb_core.specs.Ledgers.{Ledger, Opening, gives, ledger, sent_by}
use Rattle.sdb_script.specs.Spelled.{sent_record, closed_record}

-- the closing of a connection, where there is one
abbrev pub closing : Bool → ℕ → List ℕ
closing true conn = closed_record conn
closing false conn = []

-- an answer
abbrev pub sent_text : Sent → List ℕ
sent_text s = sent_record s.conn s.bytes ++ closing s.close s.conn

-- answers
abbrev pub sent_texts : List Sent → List ℕ
sent_texts sent = flat_map sent_text sent

-- the closing of a connection that there was no place for
abbrev pub full_text : Answer → ℕ → List ℕ
full_text Full conn = closed_record conn
full_text Done conn = []
full_text Disk conn = []
full_text (NotAStore file) conn = []
full_text OutOfMemory conn = []

-- what a step that isn't answered with answers shows
abbrev pub refusal_text : Event → Answer → List ℕ
refusal_text (Opened conn) answer = full_text answer conn
refusal_text (Piece conn moment bytes) answer = []
refusal_text (Ended conn) answer = []
refusal_text Commit answer = []
refusal_text Work answer = []

-- what a step shows: the answers that it releases, or its refusal
abbrev pub step_text : Event → Answer → Ledger → List ℕ
step_text e a l = sent_texts (map sent_by (gives e a l)) ++ refusal_text e a

-- what a story shows
abbrev pub shown : Opening → List Step → List ℕ
shown o [] = []
shown o (s ∷ story) = shown o story ++ step_text s.event s.answer (ledger o story)
