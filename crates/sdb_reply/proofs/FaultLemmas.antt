-- How long the responses to refusals are.
use Rattle.std.proofs.Common.{◌≡◌, ℕ, zero, suc, ◌+◌, ◌/◌, ◌%◌, ◌≤◌, ◌<◌, ◌^◌, List, [], ◌∷◌, ◌&&◌, Bool, true, false, Result, Ok, length, nat_le, decimal, slice_index_or, lit<, lit≤, refl, ap, subst, arith, length-append}
use Rattle.std.specs.List.{list_all}
use Rattle.std.specs.Result.{OnOk}
use Rattle.std.proofs.lemmas.Bool.{leb-true}
use Rattle.std.proofs.lemmas.Fmt.{decimal_digit, length-decimal-le}
use Rattle.sdb_http.specs.Responses.{close_line, close_lines, head_end, phrase_of, space_word, type_lines, version_word}
use Rattle.sdb_tables.specs.declared.refusal.Refusal.{Refusal}
use Rattle.sdb_tables.specs.Faults.{Fault, fault_of, faults, no_fault, place_of}
use Rattle.sdb_reply.specs.declared.outcome.RequestId.{RequestId}
use Rattle.sdb_reply.specs.Digits.{digit, padded}
use Rattle.sdb_reply.specs.Bodies.{after_message, after_refused_id, before_code, before_message, before_refused_id, between, body_text, id_text, refusal_units, refused}
use Rattle.sdb_reply.specs.Faults.{fault_text, head_text, refusal_text}

-- what holds where there is a value
pub at_ok : {A E : Type 0} (P : Type 0) (r : Result A E) (x : A) → r ≡ Ok x → OnOk r P → P
at_ok P r x is holds = subst (λ v. OnOk v P) is holds

pub length-padded : (base width n : ℕ) → length (padded base width n) ≡ width
unfolding padded
length-padded base zero n = refl
length-padded base (suc width) n = omega (arith, length-append (padded base width (n / base)) (digit (n % base) ∷ []), length-padded base width (n / base))

-- the code, the message and the phrase of the status are short
abbrev fits : Fault → Bool
fits row = nat_le (length row.code + length row.message + length (phrase_of row.status)) 200

all-at : {A : Type 0} (p : A → Bool) (xs : List A) (k : ℕ) (d : A) → list_all p xs ≡ true → p d ≡ true → p (slice_index_or xs k d) ≡ true
all-at p [] k d all last = last
all-at p (x ∷ xs) zero d all last = elim (p x) as (λ b. (b && list_all p xs) ≡ true → b ≡ true) [ true ↦ λ h. refl | false ↦ λ h. h ] all
all-at p (x ∷ xs) (suc k) d all last = all-at p xs k d (elim (p x) as (λ b. (b && list_all p xs) ≡ true → list_all p xs ≡ true) [ true ↦ λ h. h | false ↦ λ h. cc ] all) last

all_fit : list_all fits faults ≡ true
unfolding faults phrase_of
all_fit = refl

none_fits : fits no_fault ≡ true
unfolding phrase_of
none_fits = refl

pub row-short : (r : Refusal) → length (fault_of r).code + length (fault_of r).message + length (phrase_of (fault_of r).status) ≤ 200
unfolding fault_of
row-short r = leb-true _ _ (all-at fits faults (place_of r) no_fault all_fit none_fits)

id-length : (id : RequestId) → length (id_text id) ≡ 36
unfolding between
id-length id = simp length-append (omega (arith, length-padded 16 8 id.conn, length-padded 16 12 id.number))

hours-length : length (decimal (refusal_units / 10 ^ 10)) + length (padded 10 10 refusal_units) ≡ 11
unfolding padded
hours-length = ap (λ d. length d + 10) (decimal_digit 0 (lit< tt))

-- the body of a refusal has so many bytes beside its code and its message
refused-length : (r : Refusal) (id : RequestId) → length (refused r id refusal_units) ≡ length (fault_of r).code + length (fault_of r).message + 199
unfolding before_code before_message after_message before_refused_id after_refused_id
refused-length r id = simp length-append (omega (arith, simp length-append at (id-length id), hours-length))

pub refusal-length : (r : Refusal) (id : RequestId) → length (refusal_text r id) ≡ length (fault_of r).code + length (fault_of r).message + 199
unfolding body_text
refusal-length r id = refused-length r id

close-length : (close : Bool) → length (close_lines close) ≤ 19
unfolding close_line
close-length true = lit≤ tt
close-length false = lit≤ tt

pub head-length : (status size : ℕ) (close : Bool) → size < 2 ^ 64 → length (head_text status size close) ≤ length (phrase_of status) + 120
unfolding version_word space_word type_lines head_end
head-length status size close fits_in =
    let digits : length (decimal size) ≤ 20 = length-decimal-le 20 size (omega arith) (omega arith) fits_in in
    let closed = close-length close in
    simp length-append (omega arith)

-- no response to a refused request is longer than 1,024 bytes
pub fault-length : (r : Refusal) (id : RequestId) (close : Bool) → length (fault_text r id close) ≤ 1024
fault-length r id close =
    let row = row-short r in
    let body = refusal-length r id in
    let head = head-length (fault_of r).status (length (refusal_text r id)) close (omega arith) in
    omega (arith, length-append (head_text (fault_of r).status (length (refusal_text r id)) close) (refusal_text r id))
