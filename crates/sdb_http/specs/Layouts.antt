-- Where the parts of a head stand in its bytes.
use Rattle.std.specs.Prelude.{◌≡◌, ℕ, List, [], ◌∷◌, Bool, ◌||◌, ◌==◌, length, map, Result, Ok, Err, if◌then◌else◌}
use Rattle.std.specs.List.{list_any}
use Rattle.httparse.specs.declared.spans.Span.{Span}
use Rattle.httparse.specs.declared.spans.HeaderSpan.{HeaderSpan}
use Rattle.httparse.specs.declared.spans.RequestSpans.{RequestSpans}
use Rattle.httparse.specs.Spans.{IsWithin, header_bytes, span_bytes}
use Rattle.sdb_base.specs.Results.{◌>>=◌}
use Rattle.sdb_http.specs.declared.fault.HttpFault.{HttpFault}
use Rattle.sdb_http.specs.declared.fault.HttpFault.TheVariants.{Invalid}
use Rattle.sdb_http.specs.declared.layout.Layout.{Layout}
use Rattle.sdb_http.specs.declared.layout.Values.{Values}
use Rattle.sdb_http.specs.declared.layout.Values.TheVariants.{Absent, Once, Twice}
use Rattle.sdb_http.specs.declared.layout.Wanted.{Wanted}
use Rattle.sdb_http.specs.Heads.{HeaderFields, Parts, Shape, Verdict, connection, content_length, host_name, length_in, lists_close, query_for, query_of, same_name, transfer_encoding, values_of, verb_of}

-- the values of a name that a search found
abbrev pub AreValues : List ℕ → List (List ℕ) → Values → Type 0
AreValues head values Absent = values ≡ []
AreValues head values (Once span) = (values ≡ span_bytes head span ∷ []) × IsWithin (length head) span
AreValues head values Twice = (a b : List ℕ) × (more : List (List ℕ)) × (values ≡ a ∷ b ∷ more)

-- the value that was found lies in the first bytes
abbrev pub IsValuesWithin : ℕ → Values → Type 0
IsValuesWithin size Absent = Unit {0}
IsValuesWithin size (Once span) = IsWithin size span
IsValuesWithin size Twice = Unit {0}

-- a value more was found
abbrev pub and_one : Values → Span → Values
and_one Absent value = Once value
and_one (Once span) value = Twice
and_one Twice value = Twice

-- what a layout says of the head's bytes
abbrev pub shape_at : List ℕ → Layout → Shape
shape_at head l = record {
  verb = l.verb;
  host = span_bytes head l.host;
  query = span_bytes head l.query;
  length = l.length;
  close = l.close;
}

-- the spans lie in the head
pub record IsLayoutWithin (size : ℕ) (l : Layout) : Type 0 where
  pub host : IsWithin size l.host
  pub query : IsWithin size l.query

-- the parts that spans and header lines cover
abbrev pub parts_at : List ℕ → RequestSpans → List HeaderSpan → Parts
parts_at head spans headers = record {
  method = span_bytes head spans.method;
  target = span_bytes head spans.path;
  minor = spans.version;
  fields = map (header_bytes head) headers;
}

-- the verdict that a layout stands for in these bytes
abbrev pub verdict_at : List ℕ → Result Layout HttpFault → Verdict
verdict_at head (Ok l) = Ok (shape_at head l)
verdict_at head (Err fault) = Err fault

-- the bytes of a span, where there is one
abbrev pub bytes_at : List ℕ → Result Span HttpFault → Result (List ℕ) HttpFault
bytes_at head (Ok span) = Ok (span_bytes head span)
bytes_at head (Err fault) = Err fault

-- a value more, where the name is the one that is looked for
abbrev pub noted : Bool → Values → Span → Values
noted same found value = if same then and_one found value else found

-- what a walk over header lines found of those that rules look at
pub record AreWanted (head : List ℕ) (fields : HeaderFields) (wanted : Wanted) : Type 0 where
  pub transfer_encoding : AreValues head (values_of transfer_encoding fields) wanted.transfer_encoding
  pub content_length : AreValues head (values_of content_length fields) wanted.content_length
  pub host : AreValues head (values_of host_name fields) wanted.host
  pub close : wanted.close ≡ list_any lists_close (values_of connection fields)

-- nothing was found
abbrev pub none_found : Values → Result (Unit {0}) HttpFault
none_found Absent = Ok tt
none_found (Once span) = Err Invalid
none_found Twice = Err Invalid

-- the length that was found
abbrev pub length_found : List ℕ → Values → Result ℕ HttpFault
length_found head Absent = Ok 0
length_found head (Once span) = length_in (span_bytes head span)
length_found head Twice = Err Invalid

-- the one value that was found
abbrev pub one_found : List ℕ → Values → Result (List ℕ) HttpFault
one_found head Absent = Err Invalid
one_found head (Once span) = Ok (span_bytes head span)
one_found head Twice = Err Invalid

-- the verdict by what was found
unfoldable pub verdict_found : List ℕ → RequestSpans → Wanted → Verdict
verdict_found head spans wanted =
    none_found wanted.transfer_encoding >>= λ _.
    length_found head wanted.content_length >>= λ length.
    verb_of (span_bytes head spans.method) >>= λ verb.
    query_of (span_bytes head spans.path) >>= λ query.
    query_for verb query >>= λ query.
    one_found head wanted.host >>= λ host.
    Ok (record { verb = verb; host = host; query = query; length = length; close = spans.version == 0 || wanted.close })
