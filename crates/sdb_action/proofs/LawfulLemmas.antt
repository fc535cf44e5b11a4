-- What parameters ask for is lawful: read step by step, each name, value and list is within its limits.
use Rattle.std.proofs.Common.{◌≡◌, ℕ, ◌≤◌, List, [], ◌∷◌, length, map, Option, Some, None, Bool, true, false, cond, ◌&&◌, Result, Ok, Err, All, refl, ap, arith}
use Rattle.std.specs.Option.{IfSome, is_none, unwrap_or}
use Rattle.std.specs.Result.{IfOk}
use Rattle.std.specs.List.{AllByRecursion, IsDistinct, list_any}
use Rattle.std.specs.Str.{bytes_eq}
use Rattle.std.specs.Prelude.{codes, nat_le, nat_lt}
use Rattle.std.proofs.lemmas.Bool.{leb-true, ltb-false, or_parts, and_parts}
use Rattle.std.proofs.lemmas.List.Elements.{All-same}
use Rattle.std.proofs.lemmas.Result.{IfOk-weaker}
use Rattle.sdb_base.specs.Decimal.{decimal_of, is_decimal, value_after}
use Rattle.sdb_base.specs.Names.{IsDomainName, IsName, IsValue}
use Rattle.sdb_base.specs.Pairs.{NamedValues, value_of}
use Rattle.sdb_base.specs.Results.{and_then, each}
use Rattle.sdb_tables.specs.Kinds.{is_number, reaches}
use Rattle.sdb_tables.specs.Rules.{Field, Row, fields_by, needed_row}
use Rattle.sdb_tables.specs.declared.kind.FieldKind.TheVariants.{Name}
use Rattle.sdb_tables.specs.declared.refusal.Refusal.{Refusal}
use Rattle.sdb_tables.specs.declared.refusal.Refusal.TheVariants.{NumberSubmittedAttributesExceeded, NumberSubmittedItemsExceeded, DuplicateItemName, IncompleteExpectedExpression}
use Rattle.sdb_action.specs.declared.action.Action.{Action}
use Rattle.sdb_action.specs.declared.action.Action.TheVariants as action
use Rattle.sdb_action.specs.declared.request.PutPair.{PutPair}
use Rattle.sdb_action.specs.declared.request.DropPart.{DropPart}
use Rattle.sdb_action.specs.declared.request.Request.{Request}
use Rattle.sdb_action.specs.declared.request.Request.TheVariants.{CreateDomain, DeleteDomain, DomainMetadata}
use Rattle.sdb_action.specs.declared.numbers.EntryKind.TheVariants.{Attribute, AttributeName, Expected, Item}
use Rattle.sdb_action.specs.Entries.{entries}
use Rattle.sdb_action.specs.Tables.{text_at, field_at, domain_rows, item_rows, get_rows, list_rows, select_rows, put_rows, drop_rows, name_rows, item_name_rows, expect_rows}
use Rattle.sdb_action.specs.Lists.{at_most_25, at_most_256, some_entry, put_pair, drop_part, asked_name, pairs_of, parts_of, put_pairs, drop_parts, asked_names, item_name, put_item, drop_item, batch, names_twice, each_once, items_of, put_items, drop_items, expected_value, expect_by_fields, expect, one_expectation, expectation}
use Rattle.sdb_action.specs.Asked.{domain, most_domains, token, list_domains, put, delete, get, batch_put, batch_delete, select, asked}
use Rattle.sdb_action.specs.Lawful.{IsLongText, IsLawfulToken, IsLawfulPutPair, IsLawfulDropPart, IsLawfulExpect, IsLawfulPutItem, IsLawfulDropItem, AreLawfulItems, AreLawfulNames, IsLawfulRequest}
use Rattle.sdb_action.proofs.FieldLemmas.{field_fits, text_fits}
use Rattle.sdb_action.proofs.StepLemmas.{AreRead, and_then-if, each-if, of_ok}

-- any row
abbrev a_row : Row
a_row = needed_row [] Name

-- ---- numbers of entries

at_most_256-few : (list : List NamedValues) → IfOk (at_most_256 list) (λ l. length l ≤ 256)
at_most_256-few list = either (nat_lt 256 (length list)) refl
  where
    either : (b : Bool) → nat_lt 256 (length list) ≡ b → IfOk (cond b (Err (NumberSubmittedAttributesExceeded (length list))) (Ok list)) (λ l. length l ≤ 256)
    either true e = tt
    either false e = ltb-false 256 (length list) e

at_most_25-few : (list : List NamedValues) → IfOk (at_most_25 list) (λ l. length l ≤ 25)
at_most_25-few list = either (nat_lt 25 (length list)) refl
  where
    either : (b : Bool) → nat_lt 25 (length list) ≡ b → IfOk (cond b (Err (NumberSubmittedItemsExceeded (length list))) (Ok list)) (λ l. length l ≤ 25)
    either true e = tt
    either false e = ltb-false 25 (length list) e

some_entry-some : (list : List NamedValues) → IfOk (some_entry list) (λ some. (length some ≡ length list) × (1 ≤ length some))
some_entry-some [] = tt
some_entry-some (parts ∷ list) = (refl, omega arith)

-- ---- attributes

put_pair-lawful : (parts : NamedValues) → IfOk (put_pair parts) IsLawfulPutPair
unfolding put_rows
put_pair-lawful parts =
    and_then-if IsLawfulPutPair (fields_by parts put_rows) _ (λ fields read.
    and_then-if IsLawfulPutPair (text_at fields 0) _ (λ name named.
    and_then-if IsLawfulPutPair (text_at fields 1) _ (λ value valued.
    record {
      name_lawful = text_fits parts put_rows fields 0 a_row name (omega arith) read named;
      value_lawful = text_fits parts put_rows fields 1 a_row value (omega arith) read valued;
    })))

drop_part-lawful : (parts : NamedValues) → IfOk (drop_part parts) IsLawfulDropPart
unfolding drop_rows
drop_part-lawful parts =
    and_then-if IsLawfulDropPart (fields_by parts drop_rows) _ (λ fields read.
    and_then-if IsLawfulDropPart (text_at fields 0) _ (λ name named.
    record {
      name_lawful = text_fits parts drop_rows fields 0 a_row name (omega arith) read named;
      value_lawful = field_fits parts drop_rows fields 1 a_row (omega arith) read;
    }))

asked_name-lawful : (parts : NamedValues) → IfOk (asked_name parts) IsName
unfolding name_rows
asked_name-lawful parts =
    and_then-if IsName (fields_by parts name_rows) (λ fields. text_at fields 0) (λ fields read. at fields read (text_at fields 0) refl)
  where
    at : (fields : List Field) → fields_by parts name_rows ≡ Ok fields → (given : Result (List ℕ) Refusal) → text_at fields 0 ≡ given → IfOk given IsName
    at fields read (Err refusal) named = tt
    at fields read (Ok name) named = text_fits parts name_rows fields 0 a_row name (omega arith) read named

record ArePairs (pairs : List PutPair) : Type 0 where
  some : 1 ≤ length pairs
  few : length pairs ≤ 256
  each : All IsLawfulPutPair pairs

pairs_of-lawful : (list : List NamedValues) → IfOk (pairs_of list) ArePairs
pairs_of-lawful list =
    and_then-if ArePairs (at_most_256 list) _ (λ l counted.
    and_then-if ArePairs (some_entry l) _ (λ some there.
    let few = of_ok (λ x. length x ≤ 256) (at_most_256 list) l (at_most_256-few list) counted in
    let is = of_ok (λ x. (length x ≡ length l) × (1 ≤ length x)) (some_entry l) some (some_entry-some l) there in
    IfOk-weaker (each put_pair some) (AreRead IsLawfulPutPair some) ArePairs
    (λ pairs read. record { some = omega (arith, read.count, is.0, is.1); few = omega (arith, read.count, is.0, few); each = read.holds })
    (each-if IsLawfulPutPair put_pair put_pair-lawful some)))

record AreParts (parts : List DropPart) : Type 0 where
  few : length parts ≤ 256
  each : All IsLawfulDropPart parts

parts_of-lawful : (list : List NamedValues) → IfOk (parts_of list) AreParts
parts_of-lawful list =
    and_then-if AreParts (at_most_256 list) _ (λ l counted.
    let few = of_ok (λ x. length x ≤ 256) (at_most_256 list) l (at_most_256-few list) counted in
    IfOk-weaker (each drop_part l) (AreRead IsLawfulDropPart l) AreParts
    (λ parts read. record { few = omega (arith, read.count, few); each = read.holds })
    (each-if IsLawfulDropPart drop_part drop_part-lawful l))

asked_names-lawful : (params : NamedValues) → IfOk (asked_names params) AreLawfulNames
asked_names-lawful params =
    and_then-if AreLawfulNames (at_most_256 (entries AttributeName params)) _ (λ l counted.
    let few = of_ok (λ x. length x ≤ 256) (at_most_256 (entries AttributeName params)) l (at_most_256-few (entries AttributeName params)) counted in
    IfOk-weaker (each asked_name l) (AreRead IsName l) AreLawfulNames
    (λ names read. record { few = omega (arith, read.count, few); each = read.holds })
    (each-if IsName asked_name asked_name-lawful l))

-- ---- items of a batch

item_name-lawful : (parts : NamedValues) → IfOk (item_name parts) IsName
unfolding item_name_rows
item_name-lawful parts =
    and_then-if IsName (fields_by parts item_name_rows) (λ fields. text_at fields 0) (λ fields read. at fields read (text_at fields 0) refl)
  where
    at : (fields : List Field) → fields_by parts item_name_rows ≡ Ok fields → (given : Result (List ℕ) Refusal) → text_at fields 0 ≡ given → IfOk given IsName
    at fields read (Err refusal) named = tt
    at fields read (Ok name) named = text_fits parts item_name_rows fields 0 a_row name (omega arith) read named

put_item-lawful : (parts : NamedValues) → IfOk (put_item parts) IsLawfulPutItem
put_item-lawful parts =
    and_then-if IsLawfulPutItem (item_name parts) _ (λ name named.
    and_then-if IsLawfulPutItem (put_pairs parts) _ (λ pairs have.
    let all = of_ok ArePairs (put_pairs parts) pairs (pairs_of-lawful (entries Attribute parts)) have in
    record { name_lawful = of_ok IsName (item_name parts) name (item_name-lawful parts) named; some = all.some; few = all.few; each = all.each }))

drop_item-lawful : (parts : NamedValues) → IfOk (drop_item parts) IsLawfulDropItem
drop_item-lawful parts =
    and_then-if IsLawfulDropItem (item_name parts) _ (λ name named.
    and_then-if IsLawfulDropItem (drop_parts parts) _ (λ dropped have.
    let all = of_ok AreParts (drop_parts parts) dropped (parts_of-lawful (entries Attribute parts)) have in
    record { name_lawful = of_ok IsName (item_name parts) name (item_name-lawful parts) named; few = all.few; each = all.each }))

none_other : {A : Type 0} (name : A → List ℕ) (item : A) (items : List A) → list_any (λ other. bytes_eq (name item) (name other)) items ≡ false → AllByRecursion (λ other. bytes_eq (name item) other ≡ false) (map name items)
none_other name item [] e = tt
none_other name item (other ∷ items) e =
    let both = or_parts (bytes_eq (name item) (name other)) (list_any (λ other. bytes_eq (name item) (name other)) items) e in
    (both.0, none_other name item items both.1)

apart : {A : Type 0} (name : A → List ℕ) (items : List A) → names_twice name items ≡ false → IsDistinct bytes_eq (map name items)
unfolding names_twice IsDistinct
apart name [] e = tt
apart name (item ∷ items) e =
    let both = or_parts (list_any (λ other. bytes_eq (name item) (name other)) items) (names_twice name items) e in
    (none_other name item items both.0, apart name items both.1)

each_once-apart : {A : Type 0} (name : A → List ℕ) (items : List A) → IfOk (each_once name items) (λ given. (given ≡ items) × IsDistinct bytes_eq (map name given))
each_once-apart name items = either (names_twice name items) refl
  where
    either : (b : Bool) → names_twice name items ≡ b → IfOk (cond b (Err DuplicateItemName) (Ok items)) (λ given. (given ≡ items) × IsDistinct bytes_eq (map name given))
    either true e = tt
    either false e = (refl, apart name items e)

batch-few : (params : NamedValues) → IfOk (batch params) (λ list. (1 ≤ length list) × (length list ≤ 25))
batch-few params =
    and_then-if (λ list. (1 ≤ length list) × (length list ≤ 25)) (at_most_25 (entries Item params)) (λ list. some_entry list) (λ l counted.
    let few = of_ok (λ x. length x ≤ 25) (at_most_25 (entries Item params)) l (at_most_25-few (entries Item params)) counted in
    IfOk-weaker (some_entry l) (λ x. (length x ≡ length l) × (1 ≤ length x)) (λ list. (1 ≤ length list) × (length list ≤ 25))
    (λ some is. (is.1, omega (arith, is.0, few)))
    (some_entry-some l))

items-lawful : {A : Type 0} (reads : NamedValues → Result A Refusal) (name : A → List ℕ) (is_lawful : A → Type 0) → ((parts : NamedValues) → IfOk (reads parts) is_lawful) → (params : NamedValues) → IfOk (items_of reads name params) (AreLawfulItems name is_lawful)
items-lawful reads name is_lawful made params =
    and_then-if (AreLawfulItems name is_lawful) (batch params) _ (λ l counted.
    and_then-if (AreLawfulItems name is_lawful) (each reads l) (each_once name) (λ items have.
    let bounds = of_ok (λ list. (1 ≤ length list) × (length list ≤ 25)) (batch params) l (batch-few params) counted in
    let read = of_ok (AreRead is_lawful l) (each reads l) items (each-if is_lawful reads made l) have in
    IfOk-weaker (each_once name items) (λ given. (given ≡ items) × IsDistinct bytes_eq (map name given)) (AreLawfulItems name is_lawful)
    (λ given once. record {
      some = omega (arith, ap length once.0, read.count, bounds.0);
      few = omega (arith, ap length once.0, read.count, bounds.1);
      each = All-same is_lawful given items once.0 read.holds;
      apart = once.1;
    })
    (each_once-apart name items)))

-- ---- the expectation

expected_value-lawful : (name : List ℕ) (value : Field) (absent : Bool) → IsName name → IfSome value IsValue → IfOk (expected_value name value absent) IsLawfulExpect
expected_value-lawful name (Some value) true named valued = tt
expected_value-lawful name (Some value) false named valued = record { name_lawful = named; value_lawful = valued }
expected_value-lawful name None true named valued = record { name_lawful = named; value_lawful = tt }
expected_value-lawful name None false named valued = tt

expect_by_fields-lawful : (parts : NamedValues) → IfOk (expect_by_fields parts) IsLawfulExpect
unfolding expect_rows
expect_by_fields-lawful parts =
    and_then-if IsLawfulExpect (fields_by parts expect_rows) _ (λ fields read.
    and_then-if IsLawfulExpect (text_at fields 0) _ (λ name named.
    expected_value-lawful name (field_at fields 1) _
    (text_fits parts expect_rows fields 0 a_row name (omega arith) read named)
    (field_fits parts expect_rows fields 1 a_row (omega arith) read)))

expect-lawful : (parts : NamedValues) → IfOk (expect parts) IsLawfulExpect
expect-lawful parts = either (is_none (value_of parts (codes "Name")))
  where
    either : (b : Bool) → IfOk (cond b (Err IncompleteExpectedExpression) (expect_by_fields parts)) IsLawfulExpect
    either true = tt
    either false = expect_by_fields-lawful parts

one_expectation-lawful : (list : List NamedValues) → IfOk (one_expectation list) (λ expected. IfSome expected IsLawfulExpect)
one_expectation-lawful [] = tt
one_expectation-lawful (parts ∷ []) =
    and_then-if (λ expected. IfSome expected IsLawfulExpect) (expect parts) _ (λ expected have. of_ok IsLawfulExpect (expect parts) expected (expect-lawful parts) have)
one_expectation-lawful (parts ∷ more ∷ list) = tt

expectation-lawful : (params : NamedValues) → IfOk (expectation params) (λ expected. IfSome expected IsLawfulExpect)
expectation-lawful params = one_expectation-lawful (entries Expected params)

-- ---- actions

domain-lawful : (params : NamedValues) → IfOk (domain params) IsDomainName
unfolding domain_rows
domain-lawful params =
    and_then-if IsDomainName (fields_by params domain_rows) (λ fields. text_at fields 0) (λ fields read. at fields read (text_at fields 0) refl)
  where
    at : (fields : List Field) → fields_by params domain_rows ≡ Ok fields → (given : Result (List ℕ) Refusal) → text_at fields 0 ≡ given → IfOk given IsDomainName
    at fields read (Err refusal) named = tt
    at fields read (Ok name) named = text_fits params domain_rows fields 0 a_row name (omega arith) read named

decimal_of-most : (text : List ℕ) (most : ℕ) → IfSome (decimal_of text most) (λ number. number ≤ most)
decimal_of-most text most = either (is_decimal text && nat_le (value_after 0 text) most) refl
  where
    either : (b : Bool) → (is_decimal text && nat_le (value_after 0 text) most) ≡ b → IfSome (cond b (Some (value_after 0 text)) None) (λ number. number ≤ most)
    either true e = leb-true (value_after 0 text) most (and_parts (is_decimal text) (nat_le (value_after 0 text) most) e).1
    either false e = tt

most_domains-few : (field : Field) → IfSome field (λ text. is_number 1 100 text ≡ true) → (1 ≤ most_domains field) × (most_domains field ≤ 100)
most_domains-few None number = (omega arith, omega arith)
most_domains-few (Some text) number = at (decimal_of text 100) number (decimal_of-most text 100)
  where
    at : (read : Option ℕ) → reaches 1 read ≡ true → IfSome read (λ n. n ≤ 100) → (1 ≤ unwrap_or read 100) × (unwrap_or read 100 ≤ 100)
    at None e few = absurd cc
    at (Some n) e few = (leb-true 1 n e, few)

token-lawful : (field : Field) → IfSome field IsLongText → IfSome (token field) IsLawfulToken
token-lawful None long = tt
token-lawful (Some []) long = tt
token-lawful (Some (c ∷ cs)) long = record { some = omega arith; text = long }

list_domains-lawful : (params : NamedValues) → IfOk (list_domains params) IsLawfulRequest
unfolding list_rows
list_domains-lawful params =
    and_then-if IsLawfulRequest (fields_by params list_rows) _ (λ fields read.
    let few = most_domains-few (field_at fields 0) (field_fits params list_rows fields 0 a_row (omega arith) read) in
    record {
      some = few.0;
      few = few.1;
      token_lawful = token-lawful (field_at fields 1) (field_fits params list_rows fields 1 a_row (omega arith) read);
    })

put-lawful : (params : NamedValues) → IfOk (put params) IsLawfulRequest
unfolding item_rows
put-lawful params =
    and_then-if IsLawfulRequest (fields_by params item_rows) _ (λ fields read.
    and_then-if IsLawfulRequest (text_at fields 0) _ (λ domain at.
    and_then-if IsLawfulRequest (text_at fields 1) _ (λ name named.
    and_then-if IsLawfulRequest (put_pairs params) _ (λ pairs have.
    and_then-if IsLawfulRequest (expectation params) _ (λ expected expects.
    let all = of_ok ArePairs (put_pairs params) pairs (pairs_of-lawful (entries Attribute params)) have in (
      text_fits params item_rows fields 0 a_row domain (omega arith) read at,
      record { name_lawful = text_fits params item_rows fields 1 a_row name (omega arith) read named; some = all.some; few = all.few; each = all.each },
      of_ok (λ e. IfSome e IsLawfulExpect) (expectation params) expected (expectation-lawful params) expects,
    ))))))

delete-lawful : (params : NamedValues) → IfOk (delete params) IsLawfulRequest
unfolding item_rows
delete-lawful params =
    and_then-if IsLawfulRequest (fields_by params item_rows) _ (λ fields read.
    and_then-if IsLawfulRequest (text_at fields 0) _ (λ domain at.
    and_then-if IsLawfulRequest (text_at fields 1) _ (λ name named.
    and_then-if IsLawfulRequest (drop_parts params) _ (λ parts have.
    and_then-if IsLawfulRequest (expectation params) _ (λ expected expects.
    let all = of_ok AreParts (drop_parts params) parts (parts_of-lawful (entries Attribute params)) have in (
      text_fits params item_rows fields 0 a_row domain (omega arith) read at,
      record { name_lawful = text_fits params item_rows fields 1 a_row name (omega arith) read named; few = all.few; each = all.each },
      of_ok (λ e. IfSome e IsLawfulExpect) (expectation params) expected (expectation-lawful params) expects,
    ))))))

get-lawful : (params : NamedValues) → IfOk (get params) IsLawfulRequest
unfolding get_rows
get-lawful params =
    and_then-if IsLawfulRequest (fields_by params get_rows) _ (λ fields read.
    and_then-if IsLawfulRequest (text_at fields 0) _ (λ domain at.
    and_then-if IsLawfulRequest (text_at fields 1) _ (λ name named.
    and_then-if IsLawfulRequest (asked_names params) _ (λ names have. (
      text_fits params get_rows fields 0 a_row domain (omega arith) read at,
      text_fits params get_rows fields 1 a_row name (omega arith) read named,
      of_ok AreLawfulNames (asked_names params) names (asked_names-lawful params) have,
    )))))

batch_put-lawful : (params : NamedValues) → IfOk (batch_put params) IsLawfulRequest
batch_put-lawful params =
    and_then-if IsLawfulRequest (domain params) _ (λ name named.
    and_then-if IsLawfulRequest (put_items params) _ (λ items have. (
      of_ok IsDomainName (domain params) name (domain-lawful params) named,
      of_ok (AreLawfulItems (λ item. item.name) IsLawfulPutItem) (put_items params) items (items-lawful put_item (λ item. item.name) IsLawfulPutItem put_item-lawful params) have,
    )))

batch_delete-lawful : (params : NamedValues) → IfOk (batch_delete params) IsLawfulRequest
batch_delete-lawful params =
    and_then-if IsLawfulRequest (domain params) _ (λ name named.
    and_then-if IsLawfulRequest (drop_items params) _ (λ items have. (
      of_ok IsDomainName (domain params) name (domain-lawful params) named,
      of_ok (AreLawfulItems (λ item. item.name) IsLawfulDropItem) (drop_items params) items (items-lawful drop_item (λ item. item.name) IsLawfulDropItem drop_item-lawful params) have,
    )))

select-lawful : (params : NamedValues) → IfOk (select params) IsLawfulRequest
unfolding select_rows
select-lawful params =
    and_then-if IsLawfulRequest (fields_by params select_rows) _ (λ fields read.
    and_then-if IsLawfulRequest (text_at fields 0) _ (λ expression at. (
      text_fits params select_rows fields 0 a_row expression (omega arith) read at,
      token-lawful (field_at fields 2) (field_fits params select_rows fields 2 a_row (omega arith) read),
    )))

named-lawful : (params : NamedValues) (request : List ℕ → Request) → ((name : List ℕ) → IsDomainName name → IsLawfulRequest (request name)) → IfOk (and_then (domain params) (λ name. Ok (request name))) IsLawfulRequest
named-lawful params request made =
    and_then-if IsLawfulRequest (domain params) (λ name. Ok (request name)) (λ name named. made name (of_ok IsDomainName (domain params) name (domain-lawful params) named))

-- whatever the action
pub asked-lawful : (a : Action) (params : NamedValues) → IfOk (asked a params) IsLawfulRequest
asked-lawful action.CreateDomain params = named-lawful params CreateDomain (λ name lawful. lawful)
asked-lawful action.DeleteDomain params = named-lawful params DeleteDomain (λ name lawful. lawful)
asked-lawful action.ListDomains params = list_domains-lawful params
asked-lawful action.DomainMetadata params = named-lawful params DomainMetadata (λ name lawful. lawful)
asked-lawful action.PutAttributes params = put-lawful params
asked-lawful action.BatchPutAttributes params = batch_put-lawful params
asked-lawful action.GetAttributes params = get-lawful params
asked-lawful action.DeleteAttributes params = delete-lawful params
asked-lawful action.BatchDeleteAttributes params = batch_delete-lawful params
asked-lawful action.Select params = select-lawful params

pub asked_is_lawful_lem : (a : Action) (params : NamedValues) (request : Request) → asked a params ≡ Ok request → IsLawfulRequest request
asked_is_lawful_lem a params request e = of_ok IsLawfulRequest (asked a params) request (asked-lawful a params) e
