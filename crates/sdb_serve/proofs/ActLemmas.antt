-- Which connections a story opened, and which are open.
use Rattle.std.proofs.Common.{◌≡◌, ◌≢◌, ◌⊎◌, inl, inr, ℕ, Bool, true, false, ◌||◌, ◌&&◌, ◌==◌, if◌then◌else◌, List, [], ◌∷◌, ◌++◌, map, refl, sym, ◌∙◌, ap, append-nil}
use Rattle.std.proofs.lemmas.Bool.{false≢true, or_cases, or_left, or_right, or_parts, and_left}
use Rattle.std.proofs.lemmas.List.{map-append}
use Rattle.sdb_arrivals.specs.Framing.{ends, is_among, is_open, opened_by}
use Rattle.sdb_arrivals.specs.Story.{Answer, Done, Full, Disk, NotAStore, OutOfMemory, Event, Opened, Piece, Ended, Commit, Work, Step, brought}
use Rattle.sdb_core.specs.Ledgers.{Given, Opening, gives, ledger, released, sent_by}
use Rattle.sdb_serve.specs.Acts.{after_done, after_event, after_taken, after_work, came_full, has_come, is_full, is_opening, over}
use Rattle.sdb_status.specs.declared.status.Status.{Status}
use Rattle.sdb_status.specs.declared.status.Status.TheVariants as status
use Rattle.sdb_serve.specs.Sending.{answers}

-- an event opens the connection, where it is among those that it opens
opening-among : (k : ℕ) (e : Event) (a : Answer) → is_among k (opened_by e a) ≡ true → is_opening k e ≡ true
opening-among k (Opened c) Done h = elim (or_cases (c == k) false h) [ inl e ↦ e | inr e ↦ absurd (false≢true e) ]
opening-among k (Opened c) Full h = absurd (false≢true h)
opening-among k (Opened c) Disk h = absurd (false≢true h)
opening-among k (Opened c) (NotAStore file) h = absurd (false≢true h)
opening-among k (Opened c) OutOfMemory h = absurd (false≢true h)
opening-among k (Piece c t bytes) a h = absurd (false≢true h)
opening-among k (Ended c) a h = absurd (false≢true h)
opening-among k Commit a h = absurd (false≢true h)
opening-among k Work a h = absurd (false≢true h)

-- a connection that is open was opened now, or was open before and isn't ended now
pub open-before : (k : ℕ) (s : Step) (story : List Step) → is_open k (s ∷ story) ≡ true
    → (ends k s.event (brought s) ≡ false) × ((is_opening k s.event ≡ true) ⊎ (is_open k story ≡ true))
open-before k s story = by (ends k s.event (brought s)) (is_among k (opened_by s.event s.answer)) (is_open k story) (opening-among k s.event s.answer)
  where
    by : (ended among before : Bool) → (among ≡ true → is_opening k s.event ≡ true) → (if ended then false else (if among then true else before)) ≡ true
        → (ended ≡ false) × ((is_opening k s.event ≡ true) ⊎ (before ≡ true))
    by true among before opens h = absurd (false≢true h)
    by false true before opens h = (refl, inl (opens refl))
    by false false before opens h = (refl, inr h)

pub open-came : (k : ℕ) (story : List Step) → is_open k story ≡ true → has_come k story ≡ true
open-came k [] h = absurd (false≢true h)
open-came k (s ∷ story) h = by (open-before k s story h).1 (open-came k story)
  where
    by : (is_opening k s.event ≡ true) ⊎ (is_open k story ≡ true) → (is_open k story ≡ true → has_come k story ≡ true) → has_come k (s ∷ story) ≡ true
    by (inl e) before = or_left (is_opening k s.event) (has_come k story) e
    by (inr e) before = or_right (is_opening k s.event) (has_come k story) (before e)

pub full-came : (k : ℕ) (story : List Step) → has_come k story ≡ false → came_full k story ≡ false
full-came k [] h = refl
full-came k (s ∷ story) h = by (or_parts (is_opening k s.event) (has_come k story) h) (full-came k story)
  where
    by : (is_opening k s.event ≡ false) × (has_come k story ≡ false) → (has_come k story ≡ false → came_full k story ≡ false) → came_full k (s ∷ story) ≡ false
    by h before = ap (λ b. b || came_full k story) (and_left (is_opening k s.event) (is_full s.answer) h.0) ∙ before h.1

-- the answers of a story and one step more
pub answers-more : (o : Opening) (s : Step) (story : List Step) → answers o (s ∷ story) ≡ answers o story ++ map sent_by (gives s.event s.answer (ledger o story))
answers-more o s story = map-append sent_by (released o story) (gives s.event s.answer (ledger o story))

pub answers-same : (o : Opening) (s : Step) (story : List Step) → gives s.event s.answer (ledger o story) ≡ [] → answers o (s ∷ story) ≡ answers o story
answers-same o s story none = answers-more o s story ∙ ap (λ (g : List Given). answers o story ++ map sent_by g) none ∙ append-nil (answers o story)

-- ---- no answer says that the files stand for no accounts

event-not-over : (e : Event) (found : Status) → after_event e ≡ over found → ⊥
event-not-over (Opened c) found e = cc
event-not-over (Piece c moment bytes) found e = cc
event-not-over (Ended c) found e = cc
event-not-over Commit found e = cc
event-not-over Work found e = cc

work-not-over : (e : Event) (found : Status) → after_work e ≡ over found → ⊥
work-not-over (Opened c) found e = cc
work-not-over (Piece c moment bytes) found e = cc
work-not-over (Ended c) found e = cc
work-not-over Commit found e = cc
work-not-over Work found e = cc

pub sure-taken : (a : Answer) (e : Event) → ((file : ℕ) → a ≢ NotAStore file) → (file : ℕ) → after_taken a e ≡ over (status.NotAStore file) → ⊥
sure-taken Done e sure file is = event-not-over e (status.NotAStore file) is
sure-taken Full e sure file is = event-not-over e (status.NotAStore file) is
sure-taken Disk e sure file is = event-not-over e (status.NotAStore file) is
sure-taken (NotAStore bad) e sure file is = absurd (sure bad refl)
sure-taken OutOfMemory e sure file is = cc

pub sure-done : (a : Answer) (e : Event) → ((file : ℕ) → a ≢ NotAStore file) → (file : ℕ) → after_done a e ≡ over (status.NotAStore file) → ⊥
sure-done Done e sure file is = work-not-over e (status.NotAStore file) is
sure-done Full e sure file is = work-not-over e (status.NotAStore file) is
sure-done Disk e sure file is = work-not-over e (status.NotAStore file) is
sure-done (NotAStore bad) e sure file is = absurd (sure bad refl)
sure-done OutOfMemory e sure file is = work-not-over e (status.NotAStore file) is
