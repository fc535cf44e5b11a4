-- The values of a name among header lines, one line more.
use Rattle.std.proofs.Common.{◌≡◌, ℕ, ◌+◌, ◌<◌, Bool, true, false, List, [], ◌∷◌, ◌++◌, All, length, map, take, get_or, if◌then◌else◌, refl, sym, ap, ◌∙◌, subst, append-nil, append_assoc, arith, ◌*◌, ◌^◌, ◌≤◌, ◌||◌, lit<}
use Rattle.std.proofs.Math.Nat.{pow-le-pow_right}
use Rattle.std.proofs.lemmas.Grind.{pow_more}
use Rattle.std.proofs.lemmas.List.Folds.{list_any-append}
use Rattle.std.specs.List.{list_any}
use Rattle.std.proofs.lemmas.List.{map_more}
use Rattle.httparse.specs.declared.spans.Span.{Span}
use Rattle.httparse.specs.declared.spans.HeaderSpan.{HeaderSpan}
use Rattle.httparse.specs.declared.spans.RequestSpans.{RequestSpans}
use Rattle.httparse.specs.Spans.{IsHeaderWithin, IsWithin, header_bytes, span_bytes}
use Rattle.sdb_http.specs.declared.layout.Wanted.{Wanted}
use Rattle.sdb_http.specs.declared.layout.Values.{Values}
use Rattle.sdb_http.specs.declared.layout.Values.TheVariants.{Absent, Once, Twice}
use Rattle.sdb_http.specs.Heads.{HeaderFields, connection, content_length, host_name, length_of, lists_close, no_values, only, same_name, transfer_encoding, values_of, verdict}
use Rattle.sdb_http.specs.Layouts.{AreValues, AreWanted, IsValuesWithin, and_one, length_found, none_found, noted, one_found, parts_at, verdict_found}

pub one_value : Bool → List ℕ → List (List ℕ)
one_value true value = value ∷ []
one_value false value = []

cons_by : (name : List ℕ) (f : List ℕ × List ℕ) (fields : HeaderFields) (more : List (List ℕ)) (t : Bool) → same_name name f.0 ≡ t → values_of name (f ∷ fields) ≡ one_value t f.1 ++ values_of name fields
unfolding one_value
cons_by name f fields more true e = rw e refl
cons_by name f fields more false e = rw e refl

values_of-cons : (name : List ℕ) (f : List ℕ × List ℕ) (fields : HeaderFields) → values_of name (f ∷ fields) ≡ one_value (same_name name f.0) f.1 ++ values_of name fields
values_of-cons name f fields = cons_by name f fields [] (same_name name f.0) refl

pub values_of-append : (name : List ℕ) (fields : HeaderFields) (f : List ℕ × List ℕ) → values_of name (fields ++ f ∷ []) ≡ values_of name fields ++ one_value (same_name name f.0) f.1
unfolding one_value
values_of-append name [] f = values_of-cons name f [] ∙ append-nil (one_value (same_name name f.0) f.1)
values_of-append name (g ∷ fields) f =
    values_of-cons name g (fields ++ f ∷ []) ∙ (ap (λ (vs : List (List ℕ)). one_value (same_name name g.0) g.1 ++ vs) (values_of-append name fields f) ∙ (sym (append_assoc (one_value (same_name name g.0) g.1) (values_of name fields) (one_value (same_name name f.0) f.1)) ∙ ap (λ (vs : List (List ℕ)). vs ++ one_value (same_name name f.0) f.1) (sym (values_of-cons name g fields))))

found_by : (head : List ℕ) (values : List (List ℕ)) (found : Values) (span : Span) → IsWithin (length head) span → AreValues head values found → AreValues head (values ++ span_bytes head span ∷ []) (and_one found span)
found_by head values Absent span within none = (rw none refl, within)
found_by head values (Once one) span within is = (span_bytes head one, span_bytes head span, [], rw is.0 refl)
found_by head values Twice span within (a, b, more, is) = (a, b, more ++ span_bytes head span ∷ [], rw is refl)

next_by : (head name : List ℕ) (values : List (List ℕ)) (found : Values) (h : HeaderSpan) (t : Bool) → IsWithin (length head) h.value → AreValues head values found → AreValues head (values ++ one_value t (span_bytes head h.value)) (if t then and_one found h.value else found)
unfolding one_value
next_by head name values found h true within is = found_by head values found h.value within is
next_by head name values found h false within is = subst (λ (vs : List (List ℕ)). AreValues head vs found) (sym (append-nil values)) is

-- one header line more
pub found_more : (head name : List ℕ) (headers : List HeaderSpan) (i : ℕ) (d : HeaderSpan) (found : Values) → i < length headers → All (IsHeaderWithin (length head)) headers → AreValues head (values_of name (map (header_bytes head) (take i headers))) found → AreValues head (values_of name (map (header_bytes head) (take (i + 1) headers))) (if same_name name (span_bytes head (get_or headers i d).name) then and_one found (get_or headers i d).value else found)
found_more head name headers i d found within all is =
    let line = get_or headers i d in
    subst (λ (fields : HeaderFields). AreValues head (values_of name fields) (if same_name name (span_bytes head line.name) then and_one found line.value else found)) (sym (map_more (header_bytes head) headers i d within))
    (subst (λ (values : List (List ℕ)). AreValues head values (if same_name name (span_bytes head line.name) then and_one found line.value else found)) (sym (values_of-append name (map (header_bytes head) (take i headers)) (header_bytes head line)))
    (next_by head name (values_of name (map (header_bytes head) (take i headers))) found line (same_name name (span_bytes head line.name)) (all i d within).1 is))

close_by : (value : List ℕ) (t : Bool) → list_any lists_close (one_value t value) ≡ (if t then lists_close value else false)
unfolding one_value
close_by value true = or_none (lists_close value)
  where
    or_none : (b : Bool) → (b || false) ≡ b
    or_none true = refl
    or_none false = refl
close_by value false = refl

-- the lines so far and one more
close_more : (head : List ℕ) (headers : List HeaderSpan) (i : ℕ) (d : HeaderSpan) → i < length headers → list_any lists_close (values_of connection (map (header_bytes head) (take (i + 1) headers))) ≡ (list_any lists_close (values_of connection (map (header_bytes head) (take i headers))) || (if same_name connection (span_bytes head (get_or headers i d).name) then lists_close (span_bytes head (get_or headers i d).value) else false))
close_more head headers i d within =
    let line = header_bytes head (get_or headers i d) in
    let before = map (header_bytes head) (take i headers) in
    ap (λ (fields : HeaderFields). list_any lists_close (values_of connection fields)) (map_more (header_bytes head) headers i d within)
    ∙ (ap (list_any lists_close) (values_of-append connection before line)
    ∙ (list_any-append lists_close (values_of connection before) (one_value (same_name connection line.0) line.1)
    ∙ ap (λ (b : Bool). list_any lists_close (values_of connection before) || b) (close_by line.1 (same_name connection line.0))))

-- what a header line more makes of what was found
pub record IsMore (head : List ℕ) (line : HeaderSpan) (wanted next : Wanted) : Type 0 where
  pub transfer_encoding : next.transfer_encoding ≡ noted (same_name transfer_encoding (span_bytes head line.name)) wanted.transfer_encoding line.value
  pub content_length : next.content_length ≡ noted (same_name content_length (span_bytes head line.name)) wanted.content_length line.value
  pub host : next.host ≡ noted (same_name host_name (span_bytes head line.name)) wanted.host line.value
  pub close : next.close ≡ (wanted.close || (if same_name connection (span_bytes head line.name) then lists_close (span_bytes head line.value) else false))

pub wanted_more : (head : List ℕ) (headers : List HeaderSpan) (i : ℕ) (d : HeaderSpan) (wanted next : Wanted) → i < length headers → All (IsHeaderWithin (length head)) headers → AreWanted head (map (header_bytes head) (take i headers)) wanted → IsMore head (get_or headers i d) wanted next → AreWanted head (map (header_bytes head) (take (i + 1) headers)) next
wanted_more head headers i d wanted next within all was m =
    let fields = map (header_bytes head) (take (i + 1) headers) in
    record {
      transfer_encoding = subst (AreValues head (values_of transfer_encoding fields)) (sym m.transfer_encoding) (found_more head transfer_encoding headers i d wanted.transfer_encoding within all was.transfer_encoding);
      content_length = subst (AreValues head (values_of content_length fields)) (sym m.content_length) (found_more head content_length headers i d wanted.content_length within all was.content_length);
      host = subst (AreValues head (values_of host_name fields)) (sym m.host) (found_more head host_name headers i d wanted.host within all was.host);
      close = m.close ∙ (ap (λ (b : Bool). b || (if same_name connection (span_bytes head (get_or headers i d).name) then lists_close (span_bytes head (get_or headers i d).value) else false)) was.close ∙ sym (close_more head headers i d within));
    }

-- ---- from what was found to the verdict

none_is : (head : List ℕ) (values : List (List ℕ)) (found : Values) → AreValues head values found → none_found found ≡ no_values values
none_is head values Absent is = rw is refl
none_is head values (Once span) (is, within) = rw is refl
none_is head values Twice (a, b, more, is) = rw is refl

length_is : (head : List ℕ) (values : List (List ℕ)) (found : Values) → AreValues head values found → length_found head found ≡ length_of values
length_is head values Absent is = rw is refl
length_is head values (Once span) (is, within) = rw is refl
length_is head values Twice (a, b, more, is) = rw is refl

one_is : (head : List ℕ) (values : List (List ℕ)) (found : Values) → AreValues head values found → one_found head found ≡ only values
one_is head values Absent is = rw is refl
one_is head values (Once span) (is, within) = rw is refl
one_is head values Twice (a, b, more, is) = rw is refl

pub verdict_is : (head : List ℕ) (spans : RequestSpans) (headers : List HeaderSpan) (wanted : Wanted) → AreWanted head (map (header_bytes head) headers) wanted → verdict_found head spans wanted ≡ verdict (parts_at head spans headers)
unfolding verdict verdict_found
verdict_is head spans headers wanted was =
    let fields = map (header_bytes head) headers in
    rw (none_is head (values_of transfer_encoding fields) wanted.transfer_encoding was.transfer_encoding, length_is head (values_of content_length fields) wanted.content_length was.content_length, one_is head (values_of host_name fields) wanted.host was.host, was.close) refl

pub values_within : (head : List ℕ) (values : List (List ℕ)) (found : Values) → AreValues head values found → IsValuesWithin (length head) found
values_within head values Absent is = tt
values_within head values (Once span) (is, within) = within
values_within head values Twice is = tt

-- ---- lengths

-- a number of so many digits is small
pub small_by : (n i most : ℕ) → i < most → most ≤ 10 → n + 23 ≤ 23 * 10 ^ i → n ≤ 23 * 10 ^ 9
small_by n i most less few is = let p : 10 ^ i ≤ 10 ^ 9 = pow-le-pow_right {n = 10} (lit< tt) {i = i} {j = 9} (omega arith) in omega arith

pub small_more : (n i digit : ℕ) → digit ≤ 207 → n + 23 ≤ 23 * 10 ^ i → n * 10 + digit + 23 ≤ 23 * 10 ^ (i + 1)
small_more n i digit few is = rw (pow_more 10 i) (omega arith)
