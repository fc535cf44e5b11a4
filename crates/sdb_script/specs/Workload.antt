-- The script that measures a server: requests drawn from a seed.
use Rattle.std.specs.Prelude.{ℕ, zero, suc, ◌+◌, ◌*◌, ◌%◌, ◌==◌, nat_lt, List, [], ◌∷◌, ◌++◌, if◌then◌else◌}
use Rattle.sdb_script.specs.Draws.{below, next_state}
use Rattle.sdb_script.specs.Events.{Event, Opened, Piece, Commit, Work}
use Rattle.sdb_script.specs.Requests.{request_of}
use Rattle.sdb_script.specs.Spelled.{script_of}
use Rattle.sdb_script.specs.declared.operation.Entry.{Entry}
use Rattle.sdb_script.specs.declared.operation.Operation.{Operation}
use Rattle.sdb_script.specs.declared.operation.Operation.TheVariants.{Create, Put, Delete, Get, Select}
use Rattle.sdb_script.specs.declared.operation.Place.{Place}
use Rattle.sdb_script.specs.declared.operation.Turn.{Turn}

-- 2010-01-01T00:00:00Z, the moment of all requests
abbrev pub moment : ℕ
moment = 1262304000

-- a turn, and the state after its draws
abbrev pub Drawn : Type 0
Drawn = Turn × ℕ

-- ---- turns, each from the state before its draws

-- an attribute and a value: the attribute is drawn, then the value
abbrev pub entry_of : ℕ → Entry × ℕ
entry_of state =
    let attribute = next_state state in
    let value = next_state attribute in
    (record { attribute = below 5 attribute; value = below 100000 value }, value)

-- a put: attribute and value are drawn, then whether it replaces
unfoldable pub put_turn : (conn : ℕ) → Place → ℕ → Drawn
put_turn conn place state =
    let entry = entry_of state in
    let replace = next_state entry.1 in
    (record { conn = conn; operation = Put place entry.0 (below 2 replace == 1) }, replace)

-- a Select
unfoldable pub select_turn : (conn : ℕ) → Place → ℕ → Drawn
select_turn conn place state =
    let entry = entry_of state in
    (record { conn = conn; operation = Select place.domain entry.0 }, entry.1)

-- a turn of a kind from 0 to 9
unfoldable pub turn_of_kind : (kind conn : ℕ) → Place → ℕ → Drawn
turn_of_kind kind conn place state =
    if nat_lt kind 6 then put_turn conn place state
    else (if kind == 6 then (record { conn = conn; operation = Delete place }, state)
    else (if kind == 7 then (record { conn = conn; operation = Get place }, state)
    else select_turn conn place state))

-- a turn: the connection is drawn, then the domain, then the item, then the kind
unfoldable pub turn_of : ℕ → Drawn
turn_of state =
    let conn = next_state state in
    let domain = next_state conn in
    let item = next_state domain in
    let kind = next_state item in
    turn_of_kind (below 10 kind) (1 + below 4 conn) (record { domain = below 4 domain; item = below 1000 item }) kind

-- ---- the script

-- a request that comes on a connection
abbrev pub asked : (conn : ℕ) → Operation → Event
asked conn operation = Piece conn moment (request_of operation)

-- after each eighth turn come a commit and a turn of background work
abbrev pub after_turn : (number : ℕ) → List Event
after_turn number = if number % 8 == 0 then Commit ∷ Work ∷ [] else []

-- so many turns after `before` others
unfoldable pub turns : (many before state : ℕ) → List Event
turns zero before state = []
turns (suc many) before state =
    let drawn = turn_of state in
    (asked drawn.0.conn drawn.0.operation ∷ after_turn (before + 1)) ++ turns many (before + 1) drawn.1

-- four connections, four domains, and a commit
abbrev pub preparation : List Event
preparation =
    Opened 1 ∷ Opened 2 ∷ Opened 3 ∷ Opened 4
    ∷ asked 1 (Create 0) ∷ asked 1 (Create 1) ∷ asked 1 (Create 2) ∷ asked 1 (Create 3) ∷ Commit ∷ []

-- what happens in the workload of size n: a hundred times n turns from the seed n, and a commit at the end
abbrev pub happens_in : ℕ → List Event
happens_in n = preparation ++ turns (100 * n) 0 n ++ Commit ∷ []

-- its script
abbrev pub workload : ℕ → List ℕ
workload n = script_of (happens_in n)
