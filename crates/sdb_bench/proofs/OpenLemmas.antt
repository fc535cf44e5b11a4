-- A workload opens four connections, so that each has a place.
use Rattle.std.proofs.Common.{◌≡◌, ℕ, zero, suc, ◌+◌, ◌*◌, ◌%◌, ◌==◌, ◌<◌, ◌≤◌, Bool, true, false, if◌then◌else◌, List, [], ◌∷◌, ◌++◌, length, map, filter, ap, arith, length-append}
use Rattle.std.proofs.lemmas.List.{map-append}
use Rattle.std.proofs.lemmas.List.Sums.{count_by-le-length, length-filter}
use Rattle.sdb_arrivals.specs.Framing.{Count, is_live, live, opened, opened_by}
use Rattle.sdb_arrivals.specs.Story.{Answer, Done, Full, Disk, NotAStore, OutOfMemory, Step}
use Rattle.sdb_arrivals.specs.Story as story
use Rattle.sdb_replay.specs.Events.{happened, happening}
use Rattle.sdb_script.specs.Events.{Event, Commit, Work}
use Rattle.sdb_script.specs.Workload.{happens_in, turn_of, turns}

either : {A : Type 0} (P : A → Type 0) (b : Bool) (x y : A) → P x → P y → P (if b then x else y)
either P true x y p q = p
either P false x y p q = q

-- how many connections an event opens at most
abbrev opens : story.Event → ℕ
opens (story.Opened conn) = 1
opens (story.Piece conn moment bytes) = 0
opens (story.Ended conn) = 0
opens story.Commit = 0
opens story.Work = 0

abbrev openings : List story.Event → ℕ
openings [] = 0
openings (e ∷ events) = opens e + openings events

openings-append : (events more : List story.Event) → openings (events ++ more) ≡ openings events + openings more
openings-append [] more = omega arith
openings-append (e ∷ events) more = omega (arith, openings-append events more)

-- ---- those of a story

one_opened : (conn : ℕ) (a : Answer) → length (opened_by (story.Opened conn) a) ≤ 1
one_opened conn Done = omega arith
one_opened conn Full = omega arith
one_opened conn Disk = omega arith
one_opened conn (NotAStore file) = omega arith
one_opened conn OutOfMemory = omega arith

few_opened_by : (e : story.Event) (a : Answer) → length (opened_by e a) ≤ opens e
few_opened_by (story.Opened conn) a = one_opened conn a
few_opened_by (story.Piece conn moment bytes) a = omega arith
few_opened_by (story.Ended conn) a = omega arith
few_opened_by story.Commit a = omega arith
few_opened_by story.Work a = omega arith

few_opened : (steps : List Step) → length (opened steps) ≤ openings (happened steps)
few_opened [] = omega arith
few_opened (s ∷ steps) =
    omega (arith, length-append (opened steps) (opened_by s.event s.answer), few_opened_by s.event s.answer, few_opened steps, openings-append (happened steps) (s.event ∷ []))

few_pass : {A : Type 0} (p : A → Bool) (xs : List A) → length (filter p xs) ≤ length xs
few_pass p xs = omega (arith, length-filter p xs, count_by-le-length p xs)

-- ---- those of the workload

turns_open_none : (many before state : ℕ) → openings (map happening (turns many before state ++ Commit ∷ [])) ≡ 0
unfolding turns
turns_open_none zero before state = omega arith
turns_open_none (suc many) before state =
    let rest = turns_open_none many (before + 1) (turn_of state).1 in
    let after = either (λ l. openings (map happening ((l ++ turns many (before + 1) (turn_of state).1) ++ Commit ∷ [])) ≡ 0) ((before + 1) % 8 == 0) (Commit ∷ Work ∷ []) []
    (omega (arith, rest)) (omega (arith, rest)) in
    omega (arith, after)

four_opened : (n : ℕ) → openings (map happening (happens_in n)) ≡ 4
four_opened n = omega (arith, turns_open_none (100 * n) 0 n)

-- after a front of the workload there is a place for a connection
pub has_place : (n : ℕ) (events more : List Event) (released : Count) (steps : List Step) → happened steps ≡ map happening events → events ++ more ≡ happens_in n
    → length (live released steps) < 64
has_place n events more released steps are front =
    omega (
      arith,
      few_pass (λ c. is_live c released steps) (opened steps),
      few_opened steps,
      ap openings are,
      openings-append (map happening events) (map happening more),
      ap openings (map-append happening events more),
      ap (λ all. openings (map happening all)) front,
      four_opened n,
    )
