-- The table of the program against its value.
use Rattle.std.proofs.Common.{◌≡◌, ℕ, ◌+◌, ◌<◌, ◌≤◌, zero, suc, Bool, true, false, List, [], ◌∷◌, ◌++◌, ◌^◌, ◌&&◌, ◌==◌, Some, None, MatchOption, ◌⊎◌, inl, inr, get_or, length, filter, if◌then◌else◌, refl, sym, ap, ◌∙◌, subst, arith}
use Rattle.std.proofs.lemmas.Bool.{cases_lt}
use Rattle.std.proofs.lemmas.Bool.Decides.{nat_tests}
use Rattle.std.specs.List.{AllByRecursion}
use Rattle.std.specs.Prelude.{slice_index_or, slice_set}
use Rattle.sdb_keys.specs.declared.keys.Key.{Key}
use Rattle.sdb_arrivals.specs.Queues.{Queues}
use Rattle.sdb_arrivals.specs.Inside.{ClosesAt, IsTable, IsUpAt, SetsAccepted, held_sum, table_of}
use Rattle.sdb_arrivals.specs.Tables.{Alters, Connection, Connections, RiseAbove, closed, conns_of, fresh, is_up_as, open_in, stays, swept, with_entries}
use Rattle.sdb_arrivals.proofs.EntryLemmas.{all-append, all-back, all-filter, all-front, all-map}
use Rattle.sdb_arrivals.proofs.ChangingLemmas.{order_set}
use Rattle.sdb_arrivals.proofs.FollowingLemmas.{order_fresh, order_swept}

-- ---- a place

-- one entry is set
pub alters_at : (conn : ℕ) (entries next : List Connection) (at : ℕ) (entry after : Connection) → at < length entries → slice_index_or entries at entry ≡ entry → entry.conn ≡ conn → entry.up ≡ true → next ≡ slice_set entries at after → Alters conn entry after entries next
alters_at conn [] next at entry after within is same up set = absurd (omega arith)
alters_at conn (e ∷ entries) next zero entry after within is same up set = record { front = []; back = entries; was = ap (λ (f : Connection). f ∷ entries) is; now = set; same = same; up = up }
alters_at conn (e ∷ entries) next (suc at) entry after within is same up set =
    let more = alters_at conn entries (slice_set entries at after) at entry after (omega arith) is same up refl in
    record {
      front = e ∷ more.front;
      back = more.back;
      was = ap (λ (es : List Connection). e ∷ es) more.was;
      now = set ∙ ap (λ (es : List Connection). e ∷ es) more.now;
      same = same;
      up = up;
    }

pub same_at : (entries : List Connection) (at : ℕ) (x y : Connection) → at < length entries → slice_index_or entries at x ≡ slice_index_or entries at y
same_at [] at x y within = absurd (omega arith)
same_at (e ∷ entries) zero x y within = refl
same_at (e ∷ entries) (suc at) x y within = same_at entries at x y (omega arith)

-- the connection at a place is closed
pub closes_at : (conn at : ℕ) (entries next : List Connection) → (u : IsUpAt conn entries at) → ClosesAt at entries next → Alters conn u.entry (closed u.entry) entries next
closes_at conn at entries next u k =
    let same : k.entry ≡ u.entry = sym k.is ∙ (same_at entries at k.entry u.entry u.within ∙ u.is) in
    alters_at conn entries next at u.entry (closed u.entry) u.within u.is u.same u.up (k.set ∙ ap (λ (e : Connection). slice_set entries at (closed e)) same)

-- ---- where an open connection stands

differ : (a b : ℕ) → a < b → (b == a) ≡ false
differ a b less = grind (arith, nat_tests)

differs : (a b : ℕ) → a < b → (a == b) ≡ false
differs a b less = grind (arith, nat_tests)

-- a search between two places: what stands before is lower, what stands behind is higher
pub record IsBetween (conn : ℕ) (entries : List Connection) (low high : ℕ) : Type 0 where
  pub within : high ≤ length entries
  pub order : low ≤ high
  pub below : (k : ℕ) (d : Connection) → k < low → (get_or entries k d).conn < conn
  pub above : (k : ℕ) (d : Connection) → high ≤ k → k < length entries → conn < (get_or entries k d).conn

rise_first : (low : ℕ) (entries : List Connection) (k : ℕ) (d : Connection) → RiseAbove low (conns_of entries) → k < length entries → low < (get_or entries k d).conn
rise_first low [] k d rise within = absurd (omega arith)
rise_first low (e ∷ entries) zero d (above, rise) within = above
rise_first low (e ∷ entries) (suc k) d (above, rise) within =
    let more : e.conn < (get_or entries k d).conn = rise_first e.conn entries k d rise (omega arith) in omega arith

rise_at : (low : ℕ) (entries : List Connection) (i j : ℕ) (d : Connection) → RiseAbove low (conns_of entries) → i < j → j < length entries → (get_or entries i d).conn < (get_or entries j d).conn
rise_at low [] i j d rise less within = absurd (omega arith)
rise_at low (e ∷ entries) i zero d rise less within = absurd (omega arith)
rise_at low (e ∷ entries) zero (suc j) d (above, rise) less within = rise_first e.conn entries j d rise (omega arith)
rise_at low (e ∷ entries) (suc i) (suc j) d (above, rise) less within = rise_at e.conn entries i j d rise (omega arith) (omega arith)

open_none : (conn : ℕ) (entries : List Connection) (d : Connection) → ((k : ℕ) → k < length entries → is_up_as conn (get_or entries k d) ≡ false) → open_in conn entries ≡ false
open_none conn [] d none = refl
open_none conn (e ∷ entries) d none = rw (none 0 (omega arith)) (open_none conn entries d (λ k within. none (suc k) (omega arith)))

not_as : (conn : ℕ) (e : Connection) → (e.conn == conn) ≡ false → is_up_as conn e ≡ false
not_as conn e other = rw other refl

pub between_all : (conn : ℕ) (entries : List Connection) → IsBetween conn entries 0 (length entries)
between_all conn entries = record { within = omega arith; order = omega arith; below = λ k d less. absurd (omega arith); above = λ k d from within. absurd (omega arith) }

-- nothing is left between
pub none_between : (conn : ℕ) (entries : List Connection) (low high : ℕ) → high ≤ low → IsBetween conn entries low high → open_in conn entries ≡ false
none_between conn entries low high less b = open_none conn entries (fresh 0) (λ k within. by_place k within (cases_lt k low))
  where
    by_place : (k : ℕ) → k < length entries → (k < low) ⊎ (low ≤ k) → is_up_as conn (get_or entries k (fresh 0)) ≡ false
    by_place k within (inl before) = not_as conn (get_or entries k (fresh 0)) (differs (get_or entries k (fresh 0)).conn conn (b.below k (fresh 0) before))
    by_place k within (inr behind) = not_as conn (get_or entries k (fresh 0)) (differ conn (get_or entries k (fresh 0)).conn (b.above k (fresh 0) (omega arith) within))

middle_below : (conn : ℕ) (entries : List Connection) (middle k : ℕ) (d : Connection) → RiseAbove 0 (conns_of entries) → middle < length entries → (get_or entries middle d).conn < conn → k < middle + 1 → (get_or entries k d).conn < conn
middle_below conn entries middle k d rise within lower less =
    elim (cases_lt k middle) [
      | inl before ↦ let more : (get_or entries k d).conn < (get_or entries middle d).conn = rise_at 0 entries k middle d rise before within in omega arith
      | inr here ↦ let e : k ≡ middle = omega arith in rw e lower
    ]

middle_above : (conn : ℕ) (entries : List Connection) (middle k : ℕ) (d : Connection) → RiseAbove 0 (conns_of entries) → k < length entries → conn < (get_or entries middle d).conn → middle ≤ k → conn < (get_or entries k d).conn
middle_above conn entries middle k d rise within higher from =
    elim (cases_lt middle k) [
      | inl behind ↦ let more : (get_or entries middle d).conn < (get_or entries k d).conn = rise_at 0 entries middle k d rise behind within in omega arith
      | inr here ↦ let e : k ≡ middle = omega arith in rw e higher
    ]

at_any : (entries : List Connection) (middle : ℕ) (x d : Connection) → middle < length entries → x ≡ get_or entries middle x → x ≡ get_or entries middle d
at_any entries middle x d within is = is ∙ same_at entries middle x d within

-- the upper half is left
pub between_high : (conn : ℕ) (entries : List Connection) (low high middle : ℕ) (x : Connection) → RiseAbove 0 (conns_of entries) → IsBetween conn entries low high → middle < high → x ≡ get_or entries middle x → x.conn < conn → IsBetween conn entries (middle + 1) high
between_high conn entries low high middle x rise b less is lower =
    let within : middle < length entries = omega (arith, b.within) in
    record {
      within = b.within;
      order = omega arith;
      below = λ k d before. middle_below conn entries middle k d rise within (subst (λ (e : Connection). e.conn < conn) (at_any entries middle x d within is) lower) before;
      above = b.above;
    }

-- the lower half is left
pub between_low : (conn : ℕ) (entries : List Connection) (low high middle : ℕ) (x : Connection) → RiseAbove 0 (conns_of entries) → IsBetween conn entries low high → low ≤ middle → middle < high → x ≡ get_or entries middle x → conn < x.conn → IsBetween conn entries low middle
between_low conn entries low high middle x rise b from less is higher =
    let within : middle < length entries = omega (arith, b.within) in
    record {
      within = omega arith;
      order = from;
      below = b.below;
      above = λ k d behind inside. middle_above conn entries middle k d rise inside (subst (λ (e : Connection). conn < e.conn) (at_any entries middle x d within is) higher) behind;
    }

and_shut : (a b : Bool) → b ≡ false → (a && b) ≡ false
and_shut true b shut = shut
and_shut false b shut = refl

only_there : (conn : ℕ) (entries : List Connection) (middle : ℕ) (x : Connection) → RiseAbove 0 (conns_of entries) → middle < length entries → x ≡ get_or entries middle x → x.conn ≡ conn → x.up ≡ false → open_in conn entries ≡ false
only_there conn entries middle x rise within is same shut = open_none conn entries x (λ k inside. by_place k inside (cases_lt k middle) (cases_lt middle k))
  where
    by_place : (k : ℕ) → k < length entries → (k < middle) ⊎ (middle ≤ k) → (middle < k) ⊎ (k ≤ middle) → is_up_as conn (get_or entries k x) ≡ false
    by_place k inside (inl before) other =
        let less : (get_or entries k x).conn < (get_or entries middle x).conn = rise_at 0 entries k middle x rise before within in
        not_as conn (get_or entries k x) (differs (get_or entries k x).conn conn (omega (arith, ap (λ (e : Connection). e.conn) is)))
    by_place k inside (inr from) (inl behind) =
        let less : (get_or entries middle x).conn < (get_or entries k x).conn = rise_at 0 entries middle k x rise behind inside in
        not_as conn (get_or entries k x) (differ conn (get_or entries k x).conn (omega (arith, ap (λ (e : Connection). e.conn) is)))
    by_place k inside (inr from) (inr to) =
        let e : k ≡ middle = omega arith in
        let here : (get_or entries k x).up ≡ false = ap (λ (n : ℕ). (get_or entries n x).up) e ∙ (ap (λ (f : Connection). f.up) (sym is) ∙ shut) in
        and_shut ((get_or entries k x).conn == conn) (get_or entries k x).up here

found_by : (conn : ℕ) (entries : List Connection) (middle : ℕ) (x : Connection) (b : Bool) → x.up ≡ b → RiseAbove 0 (conns_of entries) → middle < length entries → x ≡ get_or entries middle x → x.conn ≡ conn → MatchOption (if b then Some middle else None) (open_in conn entries ≡ false) (IsUpAt conn entries)
found_by conn entries middle x true up rise within is same = record { entry = x; within = within; is = sym is; same = same; up = up }
found_by conn entries middle x false up rise within is same = only_there conn entries middle x rise within is same up

-- the connection is found
pub found_at : (conn : ℕ) (entries : List Connection) (middle : ℕ) (x : Connection) → RiseAbove 0 (conns_of entries) → middle < length entries → x ≡ get_or entries middle x → x.conn ≡ conn → MatchOption (if x.up then Some middle else None) (open_in conn entries ≡ false) (IsUpAt conn entries)
found_at conn entries middle x rise within is same = found_by conn entries middle x x.up refl rise within is same

-- ---- sums

pub held_sum-append : (xs ys : List Connection) → held_sum (xs ++ ys) ≡ held_sum xs + held_sum ys
held_sum-append [] ys = omega arith
held_sum-append (e ∷ xs) ys = omega (arith, held_sum-append xs ys)

sum_by : (test : Connection → Bool) (e : Connection) (entries : List Connection) (b : Bool) → test e ≡ b → held_sum (filter test entries) ≤ held_sum entries → held_sum (filter test (e ∷ entries)) ≤ length e.held + held_sum entries
sum_by test e entries true is less = rw is (omega arith)
sum_by test e entries false is less = rw is (omega arith)

held_sum-filter : (test : Connection → Bool) (entries : List Connection) → held_sum (filter test entries) ≤ held_sum entries
held_sum-filter test [] = omega arith
held_sum-filter test (e ∷ entries) = sum_by test e entries (test e) refl (held_sum-filter test entries)

-- an entry holds no more than all
pub held_of : (conn : ℕ) (entry after : Connection) (entries next : List Connection) → Alters conn entry after entries next → length entry.held ≤ held_sum entries
held_of conn entry after entries next a = omega (arith, ap held_sum a.was, held_sum-append a.front (entry ∷ a.back))

pub number_of : (conn most : ℕ) (entry after : Connection) (entries next : List Connection) → Alters conn entry after entries next → AllByRecursion (λ (e : Connection). e.number ≤ most) entries → entry.number ≤ most
number_of conn most entry after entries next a all =
    let Few : Connection → Type 0 = λ e. e.number ≤ most in (all-back Few a.front (entry ∷ a.back) (subst (AllByRecursion Few) a.was all)).0

pub held_at : (entries : List Connection) (at : ℕ) (x : Connection) → at < length entries → slice_index_or entries at x ≡ x → length x.held ≤ held_sum entries
held_at [] at x within is = absurd (omega arith)
held_at (e ∷ entries) zero x within is = omega (arith, ap (λ (f : Connection). length f.held) is)
held_at (e ∷ entries) (suc at) x within is = omega (arith, held_at entries at x (omega arith) is)

sum_set : (conn : ℕ) (entry after : Connection) (entries next : List Connection) → Alters conn entry after entries next → held_sum next + length entry.held ≡ held_sum entries + length after.held
sum_set conn entry after entries next a =
    omega (arith, ap held_sum a.was, held_sum-append a.front (entry ∷ a.back), ap held_sum a.now, held_sum-append a.front (after ∷ a.back))

numbers_set : (conn most now : ℕ) (entry after : Connection) (entries next : List Connection) → Alters conn entry after entries next → most ≤ now → after.number ≤ now → AllByRecursion (λ (e : Connection). e.number ≤ most) entries → AllByRecursion (λ (e : Connection). e.number ≤ now) next
numbers_set conn most now entry after entries next a less here all =
    let Few : Connection → Type 0 = λ e. e.number ≤ most in
    let More : Connection → Type 0 = λ e. e.number ≤ now in
    let was = subst (AllByRecursion Few) a.was all in
    let grow : (e : Connection) → e.number ≤ most → e.number ≤ now = λ e few. omega arith in
    subst (AllByRecursion More) (sym a.now)
    (all-append More a.front (after ∷ a.back) (all-map Few More a.front grow (all-front Few a.front (entry ∷ a.back) was)) (here, all-map Few More a.back grow (all-back Few a.front (entry ∷ a.back) was).1))

-- ---- each event keeps what is true of every table

pub table_swept : (released conn : ℕ) (t : Connections) (places now : ℕ) → t.last_opened < conn → now ≡ places → IsTable t places → IsTable (with_entries conn (swept released t.entries) t) now
table_swept released conn t places now above room h = record {
  order = order_swept released conn t above h.order;
  sized = omega (arith, h.sized, held_sum-filter (stays released) t.entries);
  bounded = h.bounded;
  numbers = all-filter (λ (e : Connection). e.number ≤ t.arrived) (stays released) t.entries h.numbers;
  room = omega (arith, h.room);
}

pub table_fresh : (released conn : ℕ) (t : Connections) (places now : ℕ) → t.last_opened < conn → now ≡ places → IsTable t places → IsTable (with_entries conn (swept released t.entries ++ fresh conn ∷ []) t) now
table_fresh released conn t places now above room h =
    let kept = swept released t.entries in
    record {
      order = order_fresh released conn t above h.order;
      sized = omega (arith, h.sized, held_sum-filter (stays released) t.entries, held_sum-append kept (fresh conn ∷ []));
      bounded = h.bounded;
      numbers = all-append (λ (e : Connection). e.number ≤ t.arrived) kept (fresh conn ∷ []) (all-filter (λ (e : Connection). e.number ≤ t.arrived) (stays released) t.entries h.numbers) (omega arith, tt);
      room = omega (arith, h.room);
    }

pub table_closed : (conn : ℕ) (entry : Connection) (t : Connections) (next : List Connection) (places now : ℕ) → Alters conn entry (closed entry) t.entries next → now ≡ places → IsTable t places → IsTable (table_of next t.last_opened t.bytes_taken t.arrived) now
table_closed conn entry t next places now a room h = record {
  order = order_set conn entry (closed entry) t (table_of next t.last_opened t.bytes_taken t.arrived) a refl refl h.order;
  sized = omega (arith, h.sized, sum_set conn entry (closed entry) t.entries next a);
  bounded = h.bounded;
  numbers = numbers_set conn t.arrived t.arrived entry (closed entry) t.entries next a (omega arith) (number_of conn t.arrived entry (closed entry) t.entries next a h.numbers) h.numbers;
  room = omega (arith, h.room);
}

pub table_accepted : (keys : List Key) (conn moment : ℕ) (bytes : List ℕ) (t : Connections) (next : List Connection) (arrived places now : ℕ) (old new : Queues) → SetsAccepted keys conn moment bytes t.arrived arrived t.entries next old new → t.bytes_taken + length bytes < 2 ^ 48 → now ≡ places → IsTable t places → IsTable (table_of next t.last_opened (t.bytes_taken + length bytes) arrived) now
table_accepted keys conn moment bytes t next arrived places now old new s fits room h =
    let a = s.alters in
    let x = s.accepts.accepts in
    let counted : arrived ≡ t.arrived + length x.replies = x.arrived in
    let sized : length x.replies + length s.after.held ≤ length s.entry.held + length bytes = x.size in
    let sums : held_sum next + length s.entry.held ≡ held_sum t.entries + length s.after.held = sum_set conn s.entry s.after t.entries next a in
    let few : s.entry.number ≤ t.arrived = number_of conn t.arrived s.entry s.after t.entries next a h.numbers in
    let numbered : s.after.number ≡ s.entry.number + length x.replies = x.number in
    record {
      order = order_set conn s.entry s.after t (table_of next t.last_opened (t.bytes_taken + length bytes) arrived) a x.conn refl h.order;
      sized = omega (arith, h.sized);
      bounded = fits;
      numbers = numbers_set conn t.arrived arrived s.entry s.after t.entries next a (omega arith) (omega arith) h.numbers;
      room = omega (arith, h.room);
    }
