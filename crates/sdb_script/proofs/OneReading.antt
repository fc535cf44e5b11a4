-- A text has one reading as a script.
use Rattle.std.proofs.Common.{◌≡◌, ℕ, zero, suc, ◌+◌, ◌<◌, ◌≤◌, List, [], ◌∷◌, ◌++◌, length, drop, Option, Some, None, refl, sym, ap, ◌∙◌, subst, arith}
use Rattle.std.proofs.lemmas.List.{length-drop, drop-append-le}
use Rattle.sdb_script.specs.Connections.{Connections, after_event}
use Rattle.sdb_script.specs.Events.{Event}
use Rattle.sdb_script.specs.Fronts.{Front, Whole, Wrong, Unjudged, front}
use Rattle.sdb_script.specs.Scripts.{Tells, ends, goes_wrong, is_cut, goes_on}
use Rattle.sdb_script.proofs.Stays.{whole-stays, whole-sized}

-- where bytes end that can't be judged
abbrev rest_ending : (at : ℕ) → List ℕ → Option ℕ
rest_ending at [] = None
rest_ending at (b ∷ bytes) = Some at

rest_ending-some : (at : ℕ) (bytes : List ℕ) → 0 < length bytes → rest_ending at bytes ≡ Some at
rest_ending-some at [] some = absurd (omega arith)
rest_ending-some at (b ∷ bytes) some = refl

-- what a reading of bytes with that front is
abbrev ReadsBy : Front → Connections → (at : ℕ) → List ℕ → List Event → Option ℕ → Type 0
ReadsBy (Whole told size) known at bytes events wrong =
    (rest : List Event) × (events ≡ told ∷ rest) × Tells (after_event known told) (at + size) (drop size bytes) rest wrong
ReadsBy Wrong known at bytes events wrong = (events ≡ []) × (wrong ≡ Some at)
ReadsBy Unjudged known at bytes events wrong = (events ≡ []) × (wrong ≡ rest_ending at bytes)

by_front : (known : Connections) (at : ℕ) (bytes : List ℕ) (events : List Event) (wrong : Option ℕ) → Tells known at bytes events wrong
    → (f : Front) → front known bytes ≡ f → ReadsBy f known at bytes events wrong
unfolding front
by_front known at bytes events wrong (ends k a) f e = subst (λ g. ReadsBy g k a [] [] None) e (refl, refl)
by_front known at bytes events wrong (goes_wrong k a bs w) f e = subst (λ g. ReadsBy g k a bs [] (Some a)) (sym w ∙ e) (refl, refl)
by_front known at bytes events wrong (is_cut k a bs u some) f e = subst (λ g. ReadsBy g k a bs [] (Some a)) (sym u ∙ e) (refl, sym (rest_ending-some a bs some))
by_front known at bytes events wrong (goes_on k a bs told size rest w whole further) f e = subst (λ g. ReadsBy g k a bs (told ∷ rest) w) (sym whole ∙ e) (rest, refl, further)

abbrev Same : List Event → List Event → Option ℕ → Option ℕ → Type 0
Same events others wrong other = (events ≡ others) × (wrong ≡ other)

pub one_reading : (known : Connections) (at : ℕ) (bytes : List ℕ) (events others : List Event) (wrong other : Option ℕ)
    → Tells known at bytes events wrong → Tells known at bytes others other → Same events others wrong other
unfolding front
one_reading known at bytes events others wrong other (ends k a) second =
    let h = by_front k a [] others other second Unjudged refl in (sym h.0, sym h.1)
one_reading known at bytes events others wrong other (goes_wrong k a bs w) second =
    let h = by_front k a bs others other second Wrong w in (sym h.0, sym h.1)
one_reading known at bytes events others wrong other (is_cut k a bs u some) second =
    let h = by_front k a bs others other second Unjudged u in (sym h.0, sym (h.1 ∙ rest_ending-some a bs some))
one_reading known at bytes events others wrong other (goes_on k a bs told size rest w whole further) second =
    let h = by_front k a bs others other second (Whole told size) whole in
    let same = one_reading (after_event k told) (a + size) (drop size bs) rest h.0 w other further h.2 in
    (ap (λ l. told ∷ l) same.0 ∙ sym h.1, same.1)

-- ---- and has one

pub record Reads (known : Connections) (at : ℕ) (bytes : List ℕ) : Type 0 where
  pub events : List Event
  pub wrong : Option ℕ
  pub tells : Tells known at bytes events wrong

unjudged_reads : (known : Connections) (at : ℕ) (bytes : List ℕ) → front known bytes ≡ Unjudged → Reads known at bytes
unjudged_reads known at [] e = record { events = []; wrong = None; tells = ends known at }
unjudged_reads known at (b ∷ bytes) e = record { events = []; wrong = Some at; tells = is_cut known at (b ∷ bytes) e (omega arith) }

reads_by : (many : ℕ) (known : Connections) (at : ℕ) (bytes : List ℕ) → length bytes ≤ many
    → ((k : Connections) (a : ℕ) (bs : List ℕ) → length bs < many → Reads k a bs) → (f : Front) → front known bytes ≡ f → Reads known at bytes
reads_by many known at bytes fits later (Whole told size) e =
    let sized = whole-sized known bytes told size e in
    let further = later (after_event known told) (at + size) (drop size bytes) (omega (arith, sized.0, sized.1, length-drop size bytes)) in
    record { events = told ∷ further.events; wrong = further.wrong; tells = goes_on known at bytes told size further.events further.wrong e further.tells }
reads_by many known at bytes fits later Wrong e = record { events = []; wrong = Some at; tells = goes_wrong known at bytes e }
reads_by many known at bytes fits later Unjudged e = unjudged_reads known at bytes e

reads_within : (many : ℕ) (known : Connections) (at : ℕ) (bytes : List ℕ) → length bytes < many → Reads known at bytes
reads_within zero known at bytes fits = absurd (omega arith)
reads_within (suc many) known at bytes fits = reads_by many known at bytes (omega arith) (reads_within many) (front known bytes) refl

pub one_at_least : (known : Connections) (at : ℕ) (bytes : List ℕ) → Reads known at bytes
one_at_least known at bytes = reads_within (suc (length bytes)) known at bytes (omega arith)

-- ---- event by event

pub tells-further : (known : Connections) (at : ℕ) (held more : List ℕ) (told : Event) (size : ℕ) (events : List Event) (wrong : Option ℕ) → front known held ≡ Whole told size
    → Tells (after_event known told) (at + size) (drop size held ++ more) events wrong → Tells known at (held ++ more) (told ∷ events) wrong
tells-further known at held more told size events wrong whole further =
    let sized = whole-sized known held told size whole in
    goes_on known at (held ++ more) told size events wrong (whole-stays known held more told size whole)
    (subst (λ l. Tells (after_event known told) (at + size) l events wrong) (sym (drop-append-le size held more sized.1)) further)
