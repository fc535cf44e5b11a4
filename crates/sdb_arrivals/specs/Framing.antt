-- Which requests the pieces of a story made whole, and which connections are open and live. It knows of
-- execution one number alone: how many arrivals are released.
use Rattle.std.specs.Prelude.{◌≡◌, ℕ, ◌+◌, Bool, true, false, ◌&&◌, ◌||◌, ◌==◌, List, [], ◌∷◌, ◌++◌, length, map, filter, drop, if◌then◌else◌}
use Rattle.std.specs.List.{list_any}
use Rattle.sdb_http.specs.Feeds.{AreAll}
use Rattle.sdb_http.specs.Messages.{Reply, is_last}
use Rattle.sdb_arrivals.specs.Story.{Answer, Done, Full, Disk, NotAStore, OutOfMemory, Event, Opened, Piece, Ended, Commit, Work, Framed, Step, brought, framed_in}

-- how many arrivals are released after a story
abbrev pub Count : Type 0
Count = List Step → ℕ

-- the arrivals that replies are, where so many came of their connection before
abbrev pub arrivals : ℕ → ℕ → ℕ → List Reply → List Framed
arrivals conn moment before [] = []
arrivals conn moment before (reply ∷ replies) =
    record { conn = conn; number = before + 1; moment = moment; request = reply } ∷ arrivals conn moment (before + 1) replies

-- those of one connection
abbrev pub of : ℕ → List Framed → List Framed
of conn came = filter (λ (w : Framed). w.conn == conn) came

-- what they ask
abbrev pub requests : List Framed → List Reply
requests came = map (λ (w : Framed). w.request) came

-- some arrival is of the connection
abbrev pub has : ℕ → List Framed → Bool
has conn came = list_any (λ (w : Framed). w.conn == conn) came

-- an event and what it brought end a connection: its end, or a piece that makes a fault or a closing request whole
abbrev pub ends : ℕ → Event → List Framed → Bool
ends conn (Piece c moment bytes) came = c == conn && list_any is_last (requests came)
ends conn (Ended c) came = c == conn
ends conn (Opened c) came = false
ends conn Commit came = false
ends conn Work came = false

-- one value of a step that was done, another of one that wasn't
abbrev pub if_done : {A : Type 0} → Answer → A → A → A
if_done Done done other = done
if_done Full done other = other
if_done Disk done other = other
if_done (NotAStore file) done other = other
if_done OutOfMemory done other = other

-- the connection that an event opens
abbrev pub opened_by : Event → Answer → List ℕ
opened_by (Opened c) answer = if_done answer (c ∷ []) []
opened_by (Piece c moment bytes) answer = []
opened_by (Ended c) answer = []
opened_by Commit answer = []
opened_by Work answer = []

-- the connections of a story, in the order in which they were opened
abbrev pub opened : List Step → List ℕ
opened [] = []
opened (s ∷ story) = opened story ++ opened_by s.event s.answer

-- the number is among them
abbrev pub is_among : ℕ → List ℕ → Bool
is_among conn conns = list_any (λ c. c == conn) conns

-- a connection is open from where it is opened until an event ends it
abbrev pub is_open : ℕ → List Step → Bool
is_open conn [] = false
is_open conn (s ∷ story) =
    if ends conn s.event (brought s) then false
    else (if is_among conn (opened_by s.event s.answer) then true else is_open conn story)

-- the bytes that came on a connection, after an event, where it was up before it
abbrev pub taken_by : ℕ → Event → Answer → Bool → List ℕ → List ℕ
taken_by conn (Piece c moment bytes) answer up before =
    if_done answer (if c == conn && up then before ++ bytes else before) before
taken_by conn (Opened c) answer up before = before
taken_by conn (Ended c) answer up before = before
taken_by conn Commit answer up before = before
taken_by conn Work answer up before = before

-- the bytes that came on a connection while it was open
abbrev pub taken : ℕ → List Step → List ℕ
taken conn [] = []
taken conn (s ∷ story) = taken_by conn s.event s.answer (is_open conn story) (taken conn story)

-- the number that was to be opened, where it was or too many were live
abbrev pub if_tried : Answer → ℕ → ℕ → ℕ
if_tried Done tried last = tried
if_tried Full tried last = tried
if_tried Disk tried last = last
if_tried (NotAStore file) tried last = last
if_tried OutOfMemory tried last = last

-- the last number that was to be opened, after an event
abbrev pub opened_last : Event → Answer → ℕ → ℕ
opened_last (Opened c) answer last = if_tried answer c last
opened_last (Piece c moment bytes) answer last = last
opened_last (Ended c) answer last = last
opened_last Commit answer last = last
opened_last Work answer last = last

-- the same of a story
abbrev pub last_opened : List Step → ℕ
last_opened [] = 0
last_opened (s ∷ story) = opened_last s.event s.answer (last_opened story)

-- how many bytes an event puts to those of its connection
abbrev pub appended : Event → Answer → List Step → ℕ
appended (Piece c moment bytes) answer story = if_done answer (if is_open c story then length bytes else 0) 0
appended (Opened c) answer story = 0
appended (Ended c) answer story = 0
appended Commit answer story = 0
appended Work answer story = 0

-- how many bytes came on open connections
abbrev pub bytes_taken : List Step → ℕ
bytes_taken [] = 0
bytes_taken (s ∷ story) = bytes_taken story + appended s.event s.answer story

-- a piece of an open connection brings arrivals of it, with its next numbers and the moment of the piece
abbrev pub BringsOn : ℕ → ℕ → List Framed → List Step → Type 0
BringsOn conn moment came story =
    (replies : List Reply) × (came ≡ arrivals conn moment (length (of conn (framed_in story))) replies)

-- where it isn't open, none
abbrev pub brings_if : Bool → ℕ → ℕ → List Framed → List Step → Type 0
brings_if true conn moment came story = BringsOn conn moment came story
brings_if false conn moment came story = came ≡ []

-- where it isn't answered Done, none
abbrev pub brings_by : Answer → ℕ → ℕ → List Framed → List Step → Type 0
brings_by Done conn moment came story = brings_if (is_open conn story) conn moment came story
brings_by Full conn moment came story = came ≡ []
brings_by Disk conn moment came story = came ≡ []
brings_by (NotAStore file) conn moment came story = came ≡ []
brings_by OutOfMemory conn moment came story = came ≡ []

-- what an event brings: only a piece brings arrivals
abbrev pub Brings : Event → Answer → List Framed → List Step → Type 0
Brings (Piece c moment bytes) answer came story = brings_by answer c moment came story
Brings (Opened c) answer came story = came ≡ []
Brings (Ended c) answer came story = came ≡ []
Brings Commit answer came story = came ≡ []
Brings Work answer came story = came ≡ []

-- of each connection, what came while it was open has just the requests that arrived on it
abbrev pub AreMessages : List Step → Type 0
AreMessages story = (conn : ℕ) → AreAll (taken conn story) (requests (of conn (framed_in story)))

-- the arrivals of a story are those that its pieces made whole
abbrev pub AreFramed : List Step → Type 0
AreFramed [] = Unit {0}
AreFramed (s ∷ story) = Brings s.event s.answer (brought s) story × AreMessages (s ∷ story) × AreFramed story

-- a connection is live while it is open, or one of its arrivals isn't released
abbrev pub is_live : ℕ → Count → List Step → Bool
is_live conn released story = is_open conn story || has conn (drop (released story) (framed_in story))

-- the live connections of a story
abbrev pub live : Count → List Step → List ℕ
live released story = filter (λ c. is_live c released story) (opened story)

-- the arrivals of a connection have the numbers after `before`, in order
abbrev pub AreNumbered : ℕ → List Framed → Type 0
AreNumbered before [] = Unit {0}
AreNumbered before (w ∷ ws) = (w.number ≡ before + 1) × AreNumbered (before + 1) ws
