-- What doesn't matter to what is asked.
use Rattle.std.proofs.Common.{◌≡◌, ℕ, Bool, true, false, cond, ◌||◌, List, [], ◌∷◌, ◌++◌, length, map, Option, Some, None, is_some, Result, Ok, Err, refl, sym, ap, ◌∙◌, subst}
use Rattle.std.specs.List.{AllByRecursion, filter_map, cons_option, list_any}
use Rattle.std.specs.List.Sorted.{IsPermutation}
use Rattle.std.specs.Map.{lookup, keys_of}
use Rattle.std.specs.Option.{is_none}
use Rattle.std.specs.Prelude.{codes, nat_lt}
use Rattle.std.specs.Str.{bytes_eq}
use Rattle.std.specs.Cmp.Lexicographic.{nat_list_eq_equiv}
use Rattle.std.proofs.lemmas.Bool.{or_left, true≢false}
use Rattle.std.proofs.lemmas.List.{length-map}
use Rattle.std.proofs.lemmas.List.Sorted.{Contains-permutation, IsPermutation-map, IsPermutation-sym}
use Rattle.std.proofs.lemmas.Map.Keys.{IsDistinct-IsPermutation}
use Rattle.std.proofs.lemmas.Map.Views.{Contains-from_lookup, lookup-from_Contains}
use Rattle.std.proofs.lemmas.Slice.Eq.{bytes_eq-Decides}
use Rattle.sdb_base.specs.Pairs.{NamedValues, HasDistinctNames, value_of}
use Rattle.sdb_base.specs.Results.{and_then, before_rest, each}
use Rattle.sdb_base.proofs.Cases.{by_bool}
use Rattle.sdb_tables.specs.Rules.{Field, Row, fields_by}
use Rattle.sdb_tables.specs.declared.refusal.Refusal.{Refusal}
use Rattle.sdb_tables.specs.declared.refusal.Refusal.TheVariants.{NumberSubmittedAttributesExceeded, NumberSubmittedItemsExceeded, IncompleteExpectedExpression}
use Rattle.sdb_action.specs.declared.action.Action.{Action}
use Rattle.sdb_action.specs.declared.action.Action.TheVariants as action
use Rattle.sdb_action.specs.declared.request.PutPair.{PutPair}
use Rattle.sdb_action.specs.declared.request.DropPart.{DropPart}
use Rattle.sdb_action.specs.declared.request.Expect.{Expect}
use Rattle.sdb_action.specs.declared.request.Request.{Request}
use Rattle.sdb_action.specs.declared.request.Request.TheVariants as request
use Rattle.sdb_action.specs.declared.numbers.EntryKind.{EntryKind}
use Rattle.sdb_action.specs.declared.numbers.EntryKind.TheVariants.{Attribute, AttributeName, Expected, Item}
use Rattle.sdb_action.specs.Entries.{entries}
use Rattle.sdb_action.specs.Tables.{text_at, field_at, flag_is, domain_rows, item_rows, get_rows, list_rows, select_rows, put_rows, drop_rows, name_rows, item_name_rows, expect_rows}
use Rattle.sdb_action.specs.Lists.{at_most_25, at_most_256, some_entry, put_pair, drop_part, asked_name, pairs_of, parts_of, put_pairs, drop_parts, asked_names, item_name, put_item, drop_item, batch, each_once, items_of, put_items, drop_items, expected_value, expect_by_fields, expect, one_expectation, expectation}
use Rattle.sdb_action.specs.Asked.{domain, most_domains, token, list_domains, put, delete, get, batch_put, batch_delete, select, asked}
use Rattle.sdb_action.specs.Laws.{rows_named_by, is_named}
use Rattle.sdb_action.proofs.AgreeLemmas.{Agree, Same, Twins, is_part, entries_agree, fields_agree, fields_same}

-- a reading that can't tell parts apart which have the same under every name
abbrev Reads : {B : Type 0} → (NamedValues → Result B Refusal) → Type 0
Reads reads = (parts others : NamedValues) → Same parts others → reads parts ≡ reads others

module _ (one other : ℕ → NamedValues) (same : (n : ℕ) → Same (one n) (other n)) where
  each_twins : {B : Type 0} (reads : NamedValues → Result B Refusal) → Reads reads → (ns : List ℕ) → each reads (map one ns) ≡ each reads (map other ns)
  each_twins reads respects [] = refl
  each_twins reads respects (n ∷ ns) =
      ap (λ first. before_rest first (each reads (map one ns))) (respects (one n) (other n) (same n))
      ∙ ap (before_rest (reads (other n))) (each_twins reads respects ns)

  -- a list of at most so many entries
  counted_twins : {B : Type 0} (limit : ℕ) (refusal : ℕ → Refusal) (next : List NamedValues → Result B Refusal) (ns : List ℕ) → next (map one ns) ≡ next (map other ns)
      → and_then (cond (nat_lt limit (length (map one ns))) (Err (refusal (length (map one ns)))) (Ok (map one ns))) next ≡ and_then (cond (nat_lt limit (length (map other ns))) (Err (refusal (length (map other ns)))) (Ok (map other ns))) next
  counted_twins limit refusal next ns rest =
      ap (λ k. and_then (cond (nat_lt limit k) (Err (refusal k)) (Ok (map one ns))) next) (length-map ns one)
      ∙ either (nat_lt limit (length ns))
      ∙ sym (ap (λ k. and_then (cond (nat_lt limit k) (Err (refusal k)) (Ok (map other ns))) next) (length-map ns other))
    where
      either : (b : Bool) → and_then (cond b (Err (refusal (length ns))) (Ok (map one ns))) next ≡ and_then (cond b (Err (refusal (length ns))) (Ok (map other ns))) next
      either true = refl
      either false = rest

  some_twins : {B : Type 0} (next : List NamedValues → Result B Refusal) (ns : List ℕ) → next (map one ns) ≡ next (map other ns) → and_then (some_entry (map one ns)) next ≡ and_then (some_entry (map other ns)) next
  some_twins next [] rest = refl
  some_twins next (n ∷ ns) rest = rest

abbrev Alike : {B : Type 0} → (List NamedValues → Result B Refusal) → Type 0
Alike reads = (list others : List NamedValues) → Twins list others → reads list ≡ reads others

along : {B : Type 0} (reads : List NamedValues → Result B Refusal) → (list others : List NamedValues) (twins : Twins list others) → reads (map twins.one twins.at) ≡ reads (map twins.other twins.at) → reads list ≡ reads others
along reads list others twins e = ap reads twins.list_is ∙ e ∙ sym (ap reads twins.others_is)

-- ---- attributes

abbrev pair_by : List Field → Result PutPair Refusal
pair_by fields =
    and_then (text_at fields 0) (λ name.
    and_then (text_at fields 1) (λ value.
    Ok (record { name = name; value = value; replace = flag_is (codes "true") (field_at fields 2) })))

put_pair-reads : Reads put_pair
put_pair-reads parts others same = ap (λ read. and_then read pair_by) (fields_same parts others same put_rows)

abbrev part_by : List Field → Result DropPart Refusal
part_by fields = and_then (text_at fields 0) (λ name. Ok (record { name = name; value = field_at fields 1 }))

drop_part-reads : Reads drop_part
drop_part-reads parts others same = ap (λ read. and_then read part_by) (fields_same parts others same drop_rows)

asked_name-reads : Reads asked_name
asked_name-reads parts others same = ap (λ fields. and_then fields (λ fields. text_at fields 0)) (fields_same parts others same name_rows)

pairs_of-alike : Alike pairs_of
pairs_of-alike list others twins =
    along pairs_of list others twins
    (counted_twins twins.one twins.other twins.same 256 NumberSubmittedAttributesExceeded (λ l. and_then (some_entry l) (λ some. each put_pair some)) twins.at
    (some_twins twins.one twins.other twins.same (λ some. each put_pair some) twins.at (each_twins twins.one twins.other twins.same put_pair put_pair-reads twins.at)))

parts_of-alike : Alike parts_of
parts_of-alike list others twins =
    along parts_of list others twins
    (counted_twins twins.one twins.other twins.same 256 NumberSubmittedAttributesExceeded (λ l. each drop_part l) twins.at
    (each_twins twins.one twins.other twins.same drop_part drop_part-reads twins.at))

abbrev names_of : List NamedValues → Result (List (List ℕ)) Refusal
names_of list = and_then (at_most_256 list) (λ list. each asked_name list)

names_of-alike : Alike names_of
names_of-alike list others twins =
    along names_of list others twins
    (counted_twins twins.one twins.other twins.same 256 NumberSubmittedAttributesExceeded (λ l. each asked_name l) twins.at
    (each_twins twins.one twins.other twins.same asked_name asked_name-reads twins.at))

everywhere : (test : List ℕ → Bool) (parts others : NamedValues) → Same parts others → Agree test parts others
everywhere test parts others same name _ = same name

-- ---- items of a batch

item_name-reads : Reads item_name
item_name-reads parts others same = ap (λ fields. and_then fields (λ fields. text_at fields 0)) (fields_same parts others same item_name_rows)

put_pairs-agree : (params others : NamedValues) → Agree (is_part Attribute) params others → put_pairs params ≡ put_pairs others
put_pairs-agree params others agree = pairs_of-alike (entries Attribute params) (entries Attribute others) (entries_agree Attribute params others agree)

drop_parts-agree : (params others : NamedValues) → Agree (is_part Attribute) params others → drop_parts params ≡ drop_parts others
drop_parts-agree params others agree = parts_of-alike (entries Attribute params) (entries Attribute others) (entries_agree Attribute params others agree)

put_item-reads : Reads put_item
put_item-reads parts others same =
    ap (λ name. and_then name (λ name. and_then (put_pairs parts) (λ pairs. Ok (record { name = name; pairs = pairs })))) (item_name-reads parts others same)
    ∙ ap (λ all. and_then (item_name others) (λ name. and_then all (λ pairs. Ok (record { name = name; pairs = pairs })))) (put_pairs-agree parts others (everywhere (is_part Attribute) parts others same))

drop_item-reads : Reads drop_item
drop_item-reads parts others same =
    ap (λ name. and_then name (λ name. and_then (drop_parts parts) (λ dropped. Ok (record { name = name; parts = dropped })))) (item_name-reads parts others same)
    ∙ ap (λ all. and_then (item_name others) (λ name. and_then all (λ dropped. Ok (record { name = name; parts = dropped })))) (drop_parts-agree parts others (everywhere (is_part Attribute) parts others same))

and_then-assoc : {A B C : Type 0} (step : Result A Refusal) (f : A → Result B Refusal) (g : B → Result C Refusal) → and_then (and_then step f) g ≡ and_then step (λ a. and_then (f a) g)
and_then-assoc (Err refusal) f g = refl
and_then-assoc (Ok a) f g = refl

-- the items of a batch out of its entries
abbrev items_from : {A : Type 0} → (NamedValues → Result A Refusal) → (A → List ℕ) → List NamedValues → Result (List A) Refusal
items_from reads name list = and_then (at_most_25 list) (λ list. and_then (some_entry list) (λ some. and_then (each reads some) (each_once name)))

items_from-alike : {A : Type 0} (reads : NamedValues → Result A Refusal) (name : A → List ℕ) → Reads reads → Alike (items_from reads name)
items_from-alike reads name respects list others twins =
    along (items_from reads name) list others twins
    (counted_twins twins.one twins.other twins.same 25 NumberSubmittedItemsExceeded (λ l. and_then (some_entry l) (λ some. and_then (each reads some) (each_once name))) twins.at
    (some_twins twins.one twins.other twins.same (λ some. and_then (each reads some) (each_once name)) twins.at
    (ap (λ all. and_then all (each_once name)) (each_twins twins.one twins.other twins.same reads respects twins.at))))

items_of-agree : {A : Type 0} (reads : NamedValues → Result A Refusal) (name : A → List ℕ) → Reads reads → (params others : NamedValues) → Agree (is_part Item) params others → items_of reads name params ≡ items_of reads name others
items_of-agree reads name respects params others agree =
    and_then-assoc (at_most_25 (entries Item params)) (λ list. some_entry list) (λ list. and_then (each reads list) (each_once name))
    ∙ items_from-alike reads name respects (entries Item params) (entries Item others) (entries_agree Item params others agree)
    ∙ sym (and_then-assoc (at_most_25 (entries Item others)) (λ list. some_entry list) (λ list. and_then (each reads list) (each_once name)))

-- ---- the expectation

abbrev expect_by : List Field → Result Expect Refusal
expect_by fields = and_then (text_at fields 0) (λ name. expected_value name (field_at fields 1) (flag_is (codes "false") (field_at fields 2)))

expect-reads : Reads expect
expect-reads parts others same =
    ap (λ named. cond (is_none named) (Err IncompleteExpectedExpression) (expect_by_fields parts)) (same (codes "Name"))
    ∙ ap (λ all. cond (is_none (value_of others (codes "Name"))) (Err IncompleteExpectedExpression) all) (ap (λ read. and_then read expect_by) (fields_same parts others same expect_rows))

one_expectation-alike : Alike one_expectation
one_expectation-alike list others twins = along one_expectation list others twins (of twins.at)
  where
    of : (ns : List ℕ) → one_expectation (map twins.one ns) ≡ one_expectation (map twins.other ns)
    of [] = refl
    of (n ∷ []) = ap (λ given. and_then given (λ expected. Ok (Some expected))) (expect-reads (twins.one n) (twins.other n) (twins.same n))
    of (n ∷ m ∷ ns) = refl

expectation-agree : (params others : NamedValues) → Agree (is_part Expected) params others → expectation params ≡ expectation others
expectation-agree params others agree = one_expectation-alike (entries Expected params) (entries Expected others) (entries_agree Expected params others agree)

-- ---- actions

or_right : (b c : Bool) → c ≡ true → (b || c) ≡ true
or_right true c e = refl
or_right false c e = e

domain-agree : (test : List ℕ → Bool) (params others : NamedValues) → Agree test params others → test (codes "DomainName") ≡ true → domain params ≡ domain others
unfolding domain_rows
domain-agree test params others agree named = ap (λ fields. and_then fields (λ fields. text_at fields 0)) (fields_agree test params others agree domain_rows (named, tt))

abbrev put_by : Result (List Field) Refusal → Result (List PutPair) Refusal → Result (Option Expect) Refusal → Result Request Refusal
put_by read pairs expected =
    and_then read (λ fields.
    and_then (text_at fields 0) (λ domain.
    and_then (text_at fields 1) (λ name.
    and_then pairs (λ pairs.
    and_then expected (λ expected.
    Ok (request.Put domain (record { name = name; pairs = pairs }) expected))))))

abbrev delete_by : Result (List Field) Refusal → Result (List DropPart) Refusal → Result (Option Expect) Refusal → Result Request Refusal
delete_by read parts expected =
    and_then read (λ fields.
    and_then (text_at fields 0) (λ domain.
    and_then (text_at fields 1) (λ name.
    and_then parts (λ parts.
    and_then expected (λ expected.
    Ok (request.Delete domain (record { name = name; parts = parts }) expected))))))

abbrev get_by : Result (List Field) Refusal → Result (List (List ℕ)) Refusal → Result Request Refusal
get_by read names =
    and_then read (λ fields.
    and_then (text_at fields 0) (λ domain.
    and_then (text_at fields 1) (λ name.
    and_then names (λ names. Ok (request.Get domain name names)))))

-- what the rules of an action name
abbrev Named : Action → NamedValues → NamedValues → Type 0
Named a params others = Agree (is_named a) params others

-- a list of the action that comes first, or second
first_list : (a : Action) (kind : EntryKind) → ((name : List ℕ) → is_part kind name ≡ true → is_named a name ≡ true) → (params others : NamedValues) → Named a params others → Agree (is_part kind) params others
first_list a kind named params others agree name part = agree name (named name part)

put-agree : (params others : NamedValues) → Named action.PutAttributes params others → put params ≡ put others
unfolding item_rows
put-agree params others agree =
    ap (λ read. put_by read (put_pairs params) (expectation params)) (fields_agree (is_named action.PutAttributes) params others agree item_rows (refl, (refl, tt)))
    ∙ ap (λ pairs. put_by (fields_by others item_rows) pairs (expectation params)) (put_pairs-agree params others (first_list action.PutAttributes Attribute (λ name part. or_right _ _ (or_left _ _ part)) params others agree))
    ∙ ap (λ expected. put_by (fields_by others item_rows) (put_pairs others) expected) (expectation-agree params others (first_list action.PutAttributes Expected (λ name part. or_right _ _ (or_right _ _ (or_left _ _ part))) params others agree))

delete-agree : (params others : NamedValues) → Named action.DeleteAttributes params others → delete params ≡ delete others
unfolding item_rows
delete-agree params others agree =
    ap (λ read. delete_by read (drop_parts params) (expectation params)) (fields_agree (is_named action.DeleteAttributes) params others agree item_rows (refl, (refl, tt)))
    ∙ ap (λ parts. delete_by (fields_by others item_rows) parts (expectation params)) (drop_parts-agree params others (first_list action.DeleteAttributes Attribute (λ name part. or_right _ _ (or_left _ _ part)) params others agree))
    ∙ ap (λ expected. delete_by (fields_by others item_rows) (drop_parts others) expected) (expectation-agree params others (first_list action.DeleteAttributes Expected (λ name part. or_right _ _ (or_right _ _ (or_left _ _ part))) params others agree))

get-agree : (params others : NamedValues) → Named action.GetAttributes params others → get params ≡ get others
unfolding get_rows
get-agree params others agree =
    ap (λ read. get_by read (asked_names params)) (fields_agree (is_named action.GetAttributes) params others agree get_rows (refl, (refl, (refl, tt))))
    ∙ ap (λ names. get_by (fields_by others get_rows) names) (names_of-alike (entries AttributeName params) (entries AttributeName others) (entries_agree AttributeName params others (first_list action.GetAttributes AttributeName (λ name part. or_right _ _ (or_left _ _ part)) params others agree)))

batch_put-agree : (params others : NamedValues) → Named action.BatchPutAttributes params others → batch_put params ≡ batch_put others
unfolding domain_rows
batch_put-agree params others agree =
    ap (λ name. and_then name (λ name. and_then (put_items params) (λ items. Ok (request.BatchPut name items)))) (domain-agree (is_named action.BatchPutAttributes) params others agree refl)
    ∙ ap (λ all. and_then (domain others) (λ name. and_then all (λ items. Ok (request.BatchPut name items)))) (items_of-agree put_item (λ item. item.name) put_item-reads params others (first_list action.BatchPutAttributes Item (λ name part. or_right _ _ (or_left _ _ part)) params others agree))

batch_delete-agree : (params others : NamedValues) → Named action.BatchDeleteAttributes params others → batch_delete params ≡ batch_delete others
unfolding domain_rows
batch_delete-agree params others agree =
    ap (λ name. and_then name (λ name. and_then (drop_items params) (λ items. Ok (request.BatchDelete name items)))) (domain-agree (is_named action.BatchDeleteAttributes) params others agree refl)
    ∙ ap (λ all. and_then (domain others) (λ name. and_then all (λ items. Ok (request.BatchDelete name items)))) (items_of-agree drop_item (λ item. item.name) drop_item-reads params others (first_list action.BatchDeleteAttributes Item (λ name part. or_right _ _ (or_left _ _ part)) params others agree))

abbrev list_by : List Field → Result Request Refusal
list_by fields = Ok (request.ListDomains (most_domains (field_at fields 0)) (token (field_at fields 1)))

abbrev select_by : List Field → Result Request Refusal
select_by fields = and_then (text_at fields 0) (λ expression. Ok (request.Select expression (token (field_at fields 2))))

list_domains-agree : (params others : NamedValues) → Named action.ListDomains params others → list_domains params ≡ list_domains others
unfolding list_rows
list_domains-agree params others agree = ap (λ read. and_then read list_by) (fields_agree (is_named action.ListDomains) params others agree list_rows (refl, (refl, tt)))

select-agree : (params others : NamedValues) → Named action.Select params others → select params ≡ select others
unfolding select_rows
select-agree params others agree = ap (λ read. and_then read select_by) (fields_agree (is_named action.Select) params others agree select_rows (refl, (refl, (refl, tt))))

alone-agree : (a : Action) (params others : NamedValues) (made : List ℕ → Request) → Named a params others → is_named a (codes "DomainName") ≡ true → and_then (domain params) (λ name. Ok (made name)) ≡ and_then (domain others) (λ name. Ok (made name))
alone-agree a params others made agree named = ap (λ name. and_then name (λ name. Ok (made name))) (domain-agree (is_named a) params others agree named)

-- parameters that agree on what the action's rules name
pub named_decide : (a : Action) (params others : NamedValues) → Agree (is_named a) params others → asked a params ≡ asked a others
unfolding domain_rows
named_decide action.CreateDomain params others agree = alone-agree action.CreateDomain params others request.CreateDomain agree refl
named_decide action.DeleteDomain params others agree = alone-agree action.DeleteDomain params others request.DeleteDomain agree refl
named_decide action.ListDomains params others agree = list_domains-agree params others agree
named_decide action.DomainMetadata params others agree = alone-agree action.DomainMetadata params others request.DomainMetadata agree refl
named_decide action.PutAttributes params others agree = put-agree params others agree
named_decide action.BatchPutAttributes params others agree = batch_put-agree params others agree
named_decide action.GetAttributes params others agree = get-agree params others agree
named_decide action.DeleteAttributes params others agree = delete-agree params others agree
named_decide action.BatchDeleteAttributes params others agree = batch_delete-agree params others agree
named_decide action.Select params others agree = select-agree params others agree

-- ---- order

exact : (a b : List ℕ) → bytes_eq a b ≡ true → a ≡ b
exact a b e = (bytes_eq-Decides a b).0 e

-- what stands under a name stands there in another order, too
moved : (name value : List ℕ) (params others : NamedValues) → HasDistinctNames others → IsPermutation params others → value_of params name ≡ Some value → value_of others name ≡ Some value
moved name value params others distinct moves e =
    lookup-from_Contains nat_list_eq_equiv name value others distinct
    (Contains-permutation params others (name, value) moves (Contains-from_lookup exact name value params e))

pub order_is_free : (a : Action) (params others : NamedValues) → HasDistinctNames params → IsPermutation params others → asked a params ≡ asked a others
order_is_free a params others distinct moves = named_decide a params others (λ name _. either name (value_of params name) (value_of others name) refl refl)
  where
    apart : HasDistinctNames others
    apart = IsDistinct-IsPermutation bytes_eq nat_list_eq_equiv.symm (keys_of params) (keys_of others) (IsPermutation-map (λ pair. pair.0) params others moves) distinct

    either : (name : List ℕ) (found there : Option (List ℕ)) → value_of params name ≡ found → value_of others name ≡ there → value_of params name ≡ value_of others name
    either name None None e f = e ∙ sym f
    either name (Some value) there e f = e ∙ sym (moved name value params others apart moves e)
    either name None (Some value) e f = moved name value others params distinct (IsPermutation-sym params others moves) f ∙ sym f

-- ---- parameters that no rule names

skipped : (q name value : List ℕ) (before after : NamedValues) → bytes_eq q name ≡ false → value_of (before ++ (name, value) ∷ after) q ≡ value_of (before ++ after) q
skipped q name value [] after other = ap (λ b. cond b (Some value) (value_of after q)) other
skipped q name value (pair ∷ before) after other = ap (λ found. cond (bytes_eq q pair.0) (Some pair.1) found) (skipped q name value before after other)

pub unnamed_is_free : (a : Action) (before after : NamedValues) (name value : List ℕ) → is_named a name ≡ false → asked a (before ++ (name, value) ∷ after) ≡ asked a (before ++ after)
unnamed_is_free a before after name value unnamed =
    named_decide a (before ++ (name, value) ∷ after) (before ++ after) (λ q named.
    by_bool (bytes_eq q name)
    (λ same. absurd (true≢false (sym named ∙ ap (is_named a) (exact q name same) ∙ unnamed)))
    (λ other. skipped q name value before after other))
