-- The workload of each size is a script, and a small one.
use Rattle.std.proofs.Common.{◌≡◌, ℕ, zero, suc, ◌+◌, ◌*◌, ◌/◌, ◌%◌, ◌^◌, ◌<◌, ◌≤◌, ◌==◌, Bool, true, false, nat_lt, if◌then◌else◌, List, [], ◌∷◌, ◌++◌, length, filter, fold, replicate, codes, decimal, refl, arith, length-append}
use Rattle.std.specs.BTreeMap.{insert_entry}
use Rattle.std.specs.List.{flat_map, join_by}
use Rattle.std.specs.Ordering.{match_ordering}
use Rattle.std.specs.declared.cmp.Ordering.TheVariants.{Less, Equal, Greater}
use Rattle.std.proofs.lemmas.Fmt.{length-decimal-le}
use Rattle.std.proofs.lemmas.List.{length-replicate}
use Rattle.base64.specs.Engines.{standard}
use Rattle.base64.specs.GeneralPurpose.{encode_of}
use Rattle.base64.specs.Rfc4648.{encode_symbols, padding_len}
use Rattle.base64.proofs.RoundTrip.{length-encode_symbols}
use Rattle.sha2.proofs.Facts256.{length-sha256}
use Rattle.sdb_base.specs.Ascii.{ampersand, equals_sign, percent}
use Rattle.sdb_base.specs.Pairs.{NamedValues}
use Rattle.sdb_base.specs.Texts.{text_cmp}
use Rattle.sdb_base.specs.declared.verb.Verb.TheVariants.{Get as GetVerb}
use Rattle.sdb_keys.specs.Hmac.{hmac}
use Rattle.sdb_sign.specs.Canon.{canonical_query, escaped, escaped_byte, hex_digit, is_signed, is_unreserved, rising, signed_params, text_to_sign, with_param, written}
use Rattle.sdb_sign.specs.Signing.{signature_of}
use Rattle.sdb_script.specs.Connections.{Connections, after_event, none_opened}
use Rattle.sdb_script.specs.Draws.{below}
use Rattle.sdb_script.specs.Events.{Event, Opened, Piece, Ended, Commit, Work}
use Rattle.sdb_script.specs.Lawful.{MayCome, MayComeInTurn}
use Rattle.sdb_script.specs.Lines.{is_open}
use Rattle.sdb_script.specs.Requests.{action_of, attribute_name, common, domain_name, expression, host, item_name, own_params, params_of, request_of, signature, signed_request, value_text}
use Rattle.sdb_script.specs.Spelled.{script_of, spelled}
use Rattle.sdb_script.specs.Workload.{Drawn, after_turn, asked, happens_in, put_turn, select_turn, turn_of, turn_of_kind, turns, workload}
use Rattle.sdb_script.specs.declared.operation.Entry.{Entry}
use Rattle.sdb_script.specs.declared.operation.Operation.{Operation}
use Rattle.sdb_script.specs.declared.operation.Operation.TheVariants.{Create, Put, Delete, Get, Select}
use Rattle.sdb_script.specs.declared.operation.Place.{Place}
use Rattle.sdb_script.specs.declared.operation.Turn.{Turn}

-- what holds of both holds of either
either : {A : Type 0} (P : A → Type 0) (b : Bool) (x y : A) → P x → P y → P (if b then x else y)
either P true x y p q = p
either P false x y p q = q

-- ---- texts of a query

escaped_byte-length : (b : ℕ) → length (escaped_byte b) ≤ 3
escaped_byte-length b = either (λ l. length l ≤ 3) (is_unreserved b) (b ∷ []) (percent ∷ hex_digit (b / 16) ∷ hex_digit (b % 16) ∷ []) (omega arith) (omega arith)

escaped-length : (text : List ℕ) → length (escaped text) ≤ 3 * length text
unfolding escaped
escaped-length [] = omega arith
escaped-length (b ∷ text) = omega (arith, length-append (escaped_byte b) (escaped text), escaped_byte-length b, escaped-length text)

-- how many bytes a parameter takes at most, with one beside them
abbrev room : List ℕ × List ℕ → ℕ
room param = 3 * length param.0 + 3 * length param.1 + 2

abbrev rooms : NamedValues → ℕ
rooms [] = 0
rooms (param ∷ params) = room param + rooms params

rooms-append : (params more : NamedValues) → rooms (params ++ more) ≡ rooms params + rooms more
rooms-append [] more = omega arith
rooms-append (param ∷ params) more = omega (arith, rooms-append params more)

written-length : (param : List ℕ × List ℕ) → length (written param) + 1 ≤ room param
written-length param = omega (arith, length-append (escaped param.0) (equals_sign ∷ escaped param.1), escaped-length param.0, escaped-length param.1)

abbrev led : List ℕ × List ℕ → List ℕ
led param = (ampersand ∷ []) ++ written param

more-length : (params : NamedValues) → length (flat_map led params) ≤ rooms params
more-length [] = omega arith
more-length (param ∷ params) = omega (arith, length-append (led param) (flat_map led params), written-length param, more-length params)

joined-length : (params : NamedValues) → length (join_by written (ampersand ∷ []) params) ≤ rooms params
joined-length [] = omega arith
joined-length (param ∷ params) = omega (arith, length-append (written param) (flat_map led params), written-length param, more-length params)

filtered-rooms : (params : NamedValues) → rooms (filter is_signed params) ≤ rooms params
filtered-rooms [] = omega arith
filtered-rooms (param ∷ params) =
    let rest = filtered-rooms params in
    either (λ l. rooms l ≤ room param + rooms params) (is_signed param) (param ∷ filter is_signed params) (filter is_signed params) (omega (arith, rest)) (omega (arith, rest))

inserted-rooms : (params : NamedValues) (name value : List ℕ) → rooms (insert_entry text_cmp params name value) ≤ rooms params + room (name, value)
inserted-rooms [] name value = omega arith
inserted-rooms (param ∷ params) name value =
    let rest = inserted-rooms params name value in
    let goal : NamedValues → Type 0 = λ l. rooms l ≤ room param + rooms params + room (name, value) in
    elim (text_cmp name param.0) as (λ r. goal (match_ordering r ((name, value) ∷ param ∷ params) ((param.0, value) ∷ params) (param ∷ insert_entry text_cmp params name value)))
    [ Less ↦ omega arith | Equal ↦ omega arith | Greater ↦ omega (arith, rest) ]

folded-rooms : (before params : NamedValues) → rooms (fold with_param before params) ≤ rooms before + rooms params
folded-rooms before [] = omega arith
folded-rooms before (param ∷ params) = omega (arith, inserted-rooms before param.0 param.1, folded-rooms (with_param before param) params)

query-length : (params : NamedValues) → length (canonical_query params) ≤ rooms params
unfolding rising
query-length params = omega (arith, joined-length (signed_params params), folded-rooms [] (filter is_signed params), filtered-rooms params)

-- ---- signatures

encoded-length : (bytes : List ℕ) → length bytes ≡ 32 → length (encode_of standard bytes) ≤ 44
encoded-length bytes size =
    let equals : ℕ = 61 in
    omega (arith, size, length-append (encode_symbols standard.encode_table bytes) (replicate (padding_len (length bytes)) equals), length-encode_symbols standard.encode_table bytes, length-replicate (padding_len (length bytes)) equals)

signature-length : (secret text : List ℕ) → length (signature_of secret text) ≤ 44
unfolding signature_of hmac
signature-length secret text = encoded-length (hmac secret text) (length-sha256 _)

-- ---- requests

-- a request has a byte, and few more than its parameters take
abbrev IsSized : List ℕ → ℕ → Type 0
IsSized request most = (1 ≤ length request) × (length request ≤ most)

request-length : (params : NamedValues) → IsSized (signed_request params) (rooms params + 200)
unfolding signed_request
request-length params =
    let query = query-length params in
    let signed = escaped-length (signature params) in
    let sign : length (signature params) ≤ 44 = signature-length (codes "BENCHSECRET") (text_to_sign GetVerb host params) in
    (simp length-append (omega arith), simp length-append (omega arith))

-- numbers of one digit
digit-length : (n : ℕ) → n < 10 → length (decimal n) ≤ 1
digit-length n small = length-decimal-le 1 n (omega arith) (omega arith) (omega arith)

last-digit : (n : ℕ) → length (decimal (n % 10)) ≤ 1
last-digit n = digit-length (n % 10) (omega arith)

domain-length : (domain : ℕ) → domain < 10 → length (domain_name domain) ≤ 6
unfolding domain_name
domain-length domain small = let d = digit-length domain small in simp length-append (omega arith)

item-length : (item : ℕ) → length (item_name item) ≤ 5
unfolding item_name
item-length item =
    let a = last-digit (item / 1000) in let b = last-digit (item / 100) in let c = last-digit (item / 10) in let d = last-digit item in
    simp length-append (omega arith)

attribute-length : (attribute : ℕ) → attribute < 10 → length (attribute_name attribute) ≤ 2
unfolding attribute_name
attribute-length attribute small = let d = digit-length attribute small in simp length-append (omega arith)

value-length : (value : ℕ) → length (value_text value) ≤ 5
unfolding value_text
value-length value =
    let a = last-digit (value / 10000) in let b = last-digit (value / 1000) in let c = last-digit (value / 100) in let d = last-digit (value / 10) in let e = last-digit value in
    simp length-append (omega arith)

expression-length : (domain : ℕ) (entry : Entry) → domain < 10 → entry.attribute < 10 → length (expression domain entry) ≤ 60
unfolding expression
expression-length domain entry small few =
    let d = domain-length domain small in let a = attribute-length entry.attribute few in let v = value-length entry.value in
    simp length-append (omega arith)

-- domains and attributes with numbers of one digit
abbrev IsWithin : Operation → Type 0
IsWithin (Create domain) = domain < 10
IsWithin (Put place entry replace) = (place.domain < 10) × (entry.attribute < 10)
IsWithin (Delete place) = place.domain < 10
IsWithin (Get place) = place.domain < 10
IsWithin (Select domain entry) = (domain < 10) × (entry.attribute < 10)

own-rooms : (operation : Operation) → IsWithin operation → rooms (own_params operation) ≤ 1000
own-rooms (Create domain) within = let d = domain-length domain within in omega arith
own-rooms (Put place entry false) within =
    let d = domain-length place.domain within.0 in let i = item-length place.item in let a = attribute-length entry.attribute within.1 in let v = value-length entry.value in omega arith
own-rooms (Put place entry true) within =
    let d = domain-length place.domain within.0 in let i = item-length place.item in let a = attribute-length entry.attribute within.1 in let v = value-length entry.value in omega arith
own-rooms (Delete place) within = let d = domain-length place.domain within in let i = item-length place.item in omega arith
own-rooms (Get place) within = let d = domain-length place.domain within in let i = item-length place.item in omega arith
own-rooms (Select domain entry) within = let e = expression-length domain entry within.0 within.1 in omega arith

action-length : (operation : Operation) → length (action_of operation) ≤ 16
action-length (Create domain) = omega arith
action-length (Put place entry replace) = omega arith
action-length (Delete place) = omega arith
action-length (Get place) = omega arith
action-length (Select domain entry) = omega arith

common-rooms : (action : List ℕ) → length action ≤ 16 → rooms (common action) ≤ 1000
common-rooms action few = omega arith

request-sized : (operation : Operation) → IsWithin operation → IsSized (request_of operation) 65536
unfolding params_of
request-sized operation within =
    let sized = request-length (params_of operation) in
    let all = rooms-append (common (action_of operation)) (own_params operation) in
    let first = common-rooms (action_of operation) (action-length operation) in
    let own = own-rooms operation within in
    (sized.0, omega (arith, sized.1, all, first, own))

-- ---- turns

-- a turn is on one of four connections, and asks for something within these limits
abbrev IsTurn : Turn → Type 0
IsTurn turn = (1 ≤ turn.conn) × (turn.conn ≤ 4) × IsWithin turn.operation

put-turn : (conn : ℕ) (place : Place) (state : ℕ) → 1 ≤ conn → conn ≤ 4 → place.domain < 10 → IsTurn (put_turn conn place state).0
unfolding put_turn below
put-turn conn place state some few small = (some, few, (small, omega arith))

select-turn : (conn : ℕ) (place : Place) (state : ℕ) → 1 ≤ conn → conn ≤ 4 → place.domain < 10 → IsTurn (select_turn conn place state).0
unfolding select_turn below
select-turn conn place state some few small = (some, few, (small, omega arith))

kind-turn : (kind conn : ℕ) (place : Place) (state : ℕ) → 1 ≤ conn → conn ≤ 4 → place.domain < 10 → IsTurn (turn_of_kind kind conn place state).0
unfolding turn_of_kind
kind-turn kind conn place state some few small =
    let P : Drawn → Type 0 = λ d. IsTurn d.0 in
    either P (nat_lt kind 6) _ _ (put-turn conn place state some few small)
    (either P (kind == 6) _ _ (some, few, small)
    (either P (kind == 7) _ _ (some, few, small) (select-turn conn place state some few small)))

is-turn : (state : ℕ) → IsTurn (turn_of state).0
unfolding turn_of below
is-turn state = kind-turn _ _ _ _ (omega arith) (omega arith) (omega arith)

-- ---- what may come

-- the four connections
abbrev four : Connections
four = record { greatest = 4; open_numbers = 1 ∷ 2 ∷ 3 ∷ 4 ∷ [] }

are_open : (conn : ℕ) → 1 ≤ conn → conn ≤ 4 → is_open four conn ≡ true
are_open zero some few = absurd (omega arith)
are_open (suc zero) some few = refl
are_open (suc (suc zero)) some few = refl
are_open (suc (suc (suc zero))) some few = refl
are_open (suc (suc (suc (suc zero)))) some few = refl
are_open (suc (suc (suc (suc (suc n))))) some few = absurd (omega arith)

may-ask : (conn : ℕ) (operation : Operation) → 1 ≤ conn → conn ≤ 4 → IsWithin operation → MayCome four (asked conn operation)
may-ask conn operation some few within =
    let sized = request-sized operation within in
    ((some, omega arith), are_open conn some few, omega arith, sized.0, sized.1)

turns-may : (many before state : ℕ) → MayComeInTurn four (turns many before state ++ Commit ∷ [])
unfolding turns
turns-may zero before state = (tt, tt)
turns-may (suc many) before state =
    let drawn = turn_of state in
    let is = is-turn state in
    let rest = turns-may many (before + 1) drawn.1 in (
      may-ask drawn.0.conn drawn.0.operation is.0 is.1 is.2,
      either (λ after. MayComeInTurn four ((after ++ turns many (before + 1) drawn.1) ++ Commit ∷ [])) ((before + 1) % 8 == 0) (Commit ∷ Work ∷ []) [] (tt, (tt, rest)) rest,
    )

pub may_all_come : (n : ℕ) → MayComeInTurn none_opened (happens_in n)
may_all_come n =
    let ask = λ (domain : ℕ) (small : domain < 10). may-ask 1 (Create domain) (omega arith) (omega arith) small in
    (((omega arith, omega arith), omega arith), (((omega arith, omega arith), omega arith), (((omega arith, omega arith), omega arith), (((omega arith, omega arith), omega arith), (ask 0 (omega arith), (ask 1 (omega arith), (ask 2 (omega arith), (ask 3 (omega arith), (tt, turns-may (100 * n) 0 n)))))))))

-- ---- the script's length

spelled-length : (known : Connections) (event : Event) → MayCome known event → length (spelled event) ≤ 65600
unfolding spelled
spelled-length known (Opened conn) may = let c = length-decimal-le 10 conn (omega arith) (omega (arith, may.0.1)) (omega (arith, may.0.1)) in simp length-append (omega arith)
spelled-length known (Piece conn moment bytes) may =
    let c = length-decimal-le 10 conn (omega arith) (omega (arith, may.0.1)) (omega (arith, may.0.1)) in
    let t = length-decimal-le 12 moment (omega arith) (omega (arith, may.2)) (omega (arith, may.2)) in
    let s = length-decimal-le 5 (length bytes) (omega arith) (omega (arith, may.4)) (omega (arith, may.4)) in
    let b = may.4 in
    simp length-append (omega arith)
spelled-length known (Ended conn) may = let c = length-decimal-le 10 conn (omega arith) (omega (arith, may.0.1)) (omega (arith, may.0.1)) in simp length-append (omega arith)
spelled-length known Commit may = omega arith
spelled-length known Work may = omega arith

script-length : (known : Connections) (events : List Event) → MayComeInTurn known events → length (script_of events) ≤ 65600 * length events
script-length known [] may = omega arith
script-length known (event ∷ events) may =
    omega (arith, length-append (spelled event) (script_of events), spelled-length known event may.0, script-length (after_event known event) events may.1)

turns-count : (many before state : ℕ) → length (turns many before state) ≤ 3 * many
unfolding turns
turns-count zero before state = omega arith
turns-count (suc many) before state =
    let rest = turns many (before + 1) (turn_of state).1 in
    let after = either (λ l. length l ≤ 2) ((before + 1) % 8 == 0) (Commit ∷ Work ∷ []) [] (omega arith) (omega arith) in
    omega (arith, after, length-append (after_turn (before + 1)) rest, turns-count many (before + 1) (turn_of state).1)

pub is_small : (n : ℕ) → n ≤ 100 → length (workload n) < 2 ^ 40
is_small n most =
    omega (arith, script-length none_opened (happens_in n) (may_all_come n), length-append (turns (100 * n) 0 n) (Commit ∷ []), turns-count (100 * n) 0 n)
