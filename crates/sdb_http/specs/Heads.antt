-- What the head of a request asks, or the fault that is answered in its place (RFC 9112, sections 2 to 6).
use Rattle.std.specs.Prelude.{◌≡◌, ℕ, ◌≤◌, List, [], ◌∷◌, length, map, filter, Bool, ◌&&◌, ◌||◌, ◌==◌, nat_le, codes, Result, Ok, Err, if◌then◌else◌, ◌⊎◌}
use Rattle.std.specs.Char.{is_ascii_digit}
use Rattle.std.specs.List.{list_all, list_any, slice_split}
use Rattle.std.specs.Str.{bytes_eq, str_eq_ignore_ascii_case}
use Rattle.httparse.specs.Grammar.{RequestHead, ReadsRequest, trim_ows}
use Rattle.httparse.specs.Spans.{name_and_value}
use Rattle.sdb_base.specs.Decimal.{value_after}
use Rattle.sdb_base.specs.Results.{◌>>=◌}
use Rattle.sdb_base.specs.declared.verb.Verb.{Verb}
use Rattle.sdb_base.specs.declared.verb.Verb.TheVariants.{Get, Post}
use Rattle.sdb_http.specs.declared.fault.HttpFault.{HttpFault}
use Rattle.sdb_http.specs.declared.fault.HttpFault.TheVariants.{Invalid, BodyTooLong}

-- names and values of header lines
abbrev pub HeaderFields : Type 0
HeaderFields = List (List ℕ × List ℕ)

-- the parts of a head that its verdict looks at
pub record Parts : Type 0 where
  pub method : List ℕ
  pub target : List ℕ
  pub minor : ℕ
  pub fields : HeaderFields

-- the parts that rules look at
abbrev pub parts_of : RequestHead → Parts
parts_of h = record { method = h.method; target = h.target; minor = h.minor; fields = map name_and_value h.fields }

-- what a lawful head asks for
pub record Shape : Type 0 where
  pub verb : Verb
  pub host : List ℕ
  pub query : List ℕ
  pub length : ℕ
  pub close : Bool

-- what a head asks for, or the fault that it is
abbrev pub Verdict : Type 0
Verdict = Result Shape HttpFault

-- the names that are looked for, in lower case
unfoldable pub transfer_encoding : List ℕ
transfer_encoding = codes "transfer-encoding"

-- the names of the headers that are looked at, in lower case
unfoldable pub content_length : List ℕ
content_length = codes "content-length"

-- of the host
unfoldable pub host_name : List ℕ
host_name = codes "host"

-- of what happens to the connection
unfoldable pub connection : List ℕ
connection = codes "connection"

-- the word that closes it
unfoldable pub close_word : List ℕ
close_word = codes "close"

-- the methods
unfoldable pub get_word : List ℕ
get_word = codes "GET"

-- of a form in the body
unfoldable pub post_word : List ℕ
post_word = codes "POST"

-- two names are equal but for the case of ASCII letters
abbrev pub same_name : List ℕ → List ℕ → Bool
same_name a b = str_eq_ignore_ascii_case a b

-- the values of the header lines of that name, whatever its case
abbrev pub values_of : List ℕ → HeaderFields → List (List ℕ)
values_of name fields = map (λ f. f.1) (filter (λ f. same_name name f.0) fields)

-- the value is there once
abbrev pub only : List (List ℕ) → Result (List ℕ) HttpFault
only [] = Err Invalid
only (value ∷ []) = Ok value
only (value ∷ other ∷ more) = Err Invalid

-- 1 to 10 digits
abbrev pub is_length : List ℕ → Bool
is_length value = nat_le 1 (length value) && nat_le (length value) 10 && list_all is_ascii_digit value

-- a length of at most 1,048,576 bytes
abbrev pub length_in : List ℕ → Result ℕ HttpFault
length_in value =
    if is_length value then (if nat_le (value_after 0 value) 1048576 then Ok (value_after 0 value) else Err BodyTooLong) else Err Invalid

-- how many bytes the body has
abbrev pub length_of : List (List ℕ) → Result ℕ HttpFault
length_of [] = Ok 0
length_of (value ∷ []) = length_in value
length_of (value ∷ other ∷ more) = Err Invalid

-- the name doesn't stand there
abbrev pub no_values : List (List ℕ) → Result (Unit {0}) HttpFault
no_values [] = Ok tt
no_values (value ∷ more) = Err Invalid

-- the verb of a method: GET and POST are known
abbrev pub verb_of : List ℕ → Result Verb HttpFault
verb_of method =
    if bytes_eq method get_word then Ok Get else (if bytes_eq method post_word then Ok Post else Err Invalid)

-- the query of `/`, which is empty, or of `/?` and a query
abbrev pub query_of : List ℕ → Result (List ℕ) HttpFault
query_of [] = Err Invalid
query_of (slash ∷ []) = if slash == 47 then Ok [] else Err Invalid
query_of (slash ∷ mark ∷ query) = if slash == 47 && mark == 63 then Ok query else Err Invalid

-- the form of a POST is its body, so it has no query
abbrev pub query_for : Verb → List ℕ → Result (List ℕ) HttpFault
query_for Get query = Ok query
query_for Post [] = Ok []
query_for Post (b ∷ query) = Err Invalid

-- a Connection header's value lists `close`, in any case
abbrev pub lists_close : List ℕ → Bool
lists_close value = list_any (λ part. same_name close_word (trim_ows part)) (slice_split (λ b. b == 44) value)

-- the connection is closed after the answer
abbrev pub closes : Parts → Bool
closes p = p.minor == 0 || list_any lists_close (values_of connection p.fields)

-- the first fault of a head that the grammar accepts, or what it asks for
unfoldable pub verdict : Parts → Verdict
verdict p =
    no_values (values_of transfer_encoding p.fields) >>= λ _.
    length_of (values_of content_length p.fields) >>= λ length.
    verb_of p.method >>= λ verb.
    query_of p.target >>= λ query.
    query_for verb query >>= λ query.
    only (values_of host_name p.fields) >>= λ host.
    Ok (record { verb = verb; host = host; query = query; length = length; close = closes p })

-- the bytes are just this head, which has at most 64 header lines
pub record IsAccepted (bytes : List ℕ) (h : RequestHead) : Type 0 where
  pub reads : ReadsRequest bytes h []
  pub few : length h.fields ≤ 64

-- the verdict on the bytes of a head: its parts', or Invalid where the grammar accepts no such head
abbrev pub Judged : List ℕ → Verdict → Type 0
Judged bytes v =
    ((h : RequestHead) × IsAccepted bytes h × (v ≡ verdict (parts_of h)))
    ⊎ (((h : RequestHead) → ¬ (IsAccepted bytes h)) × (v ≡ Err Invalid))
