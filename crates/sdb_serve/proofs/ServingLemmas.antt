-- How a step of the core, and what goes with it, keeps what holds of a server.
use Rattle.std.proofs.Common.{◌≡◌, ◌≢◌, ◌⊎◌, inl, inr, ◌+◌, ◌-◌, ◌^◌, ◌<◌, ◌≤◌, min, ℕ, Bool, true, false, ◌||◌, ◌&&◌, ◌==◌, if◌then◌else◌, List, [], ◌∷◌, ◌++◌, length, map, Option, Some, None, IsTrue, refl, sym, ◌∙◌, ap, subst, arith, append-nil}
use Rattle.std.proofs.lemmas.Bool.{false≢true, cases_Bool, cases_eq, eqb-true, eq-eqb, ne_eqb, or_cases, or_parts, or_left, or_right}
use Rattle.sdb_arrivals.specs.Framing.{is_open}
use Rattle.sdb_arrivals.specs.Queues.{Sent}
use Rattle.sdb_arrivals.specs.Story.{Answer, Arrival, Event, Opened, Piece, Ended, Commit, Work, Step}
use Rattle.sdb_core.specs.Kept.{View}
use Rattle.sdb_core.specs.Ledgers.{Given, Opening, gives, ledger, released, sent_by}
use Rattle.sdb_core.specs.Told.{RoseBy, StandsFor, faults_in, faults_of, step_of}
use Rattle.sdb_disk.specs.Disk as disk
use Rattle.sdb_io.specs.Links as links
use Rattle.sdb_io.specs.Links.{opened, closed}
use Rattle.sdb_serve.specs.Acts.{Act, Comes, IsDue, Phase, came_full, has, has_come, is_full, is_lost, is_opening, lost, phase, resting, story_of, takes, waits_in}
use Rattle.sdb_serve.specs.Coming.{IsFirst, ReadsClock}
use Rattle.sdb_serve.specs.Sending.{IsSent, answers, bytes_to, in_stage, is_closing, is_shut}
use Rattle.sdb_serve.specs.Stepping.{Stepped}
use Rattle.sdb_serve.specs.Serving.{Begun, OfLinks, OnLinks, Serving}
use Rattle.sdb_serve.proofs.SendLemmas.{RoseBy-add}
use Rattle.sdb_serve.proofs.ActLemmas.{answers-same, full-came, open-before, open-came, sure-taken}

-- what an event that comes, and its answer, make of the links
pub record Shift (e : Event) (a : Answer) (before now : links.State) : Type 0 where
  pub told : now.told ≡ before.told
  pub faults : before.faults ≤ now.faults
  pub last : before.last ≤ now.last
  pub opens : (k : ℕ) → is_opening k e ≡ true → (before.last < k) × (k ≤ now.last)
  pub come : IsTrue before.told → IsFirst e before.to_come now.to_come
  pub sent : IsTrue before.told → (k : ℕ) → now.sent k ≡ before.sent k
  pub stage : IsTrue before.told → (k : ℕ) → now.stage k ≡ in_stage (is_opening k e) (is_full a) (before.stage k)
  pub port : IsTrue before.told → now.port ≡ before.port

pub RoseBy-later : (n before mid now : ℕ) → RoseBy n before mid → mid ≤ now → RoseBy n before now
RoseBy-later n before mid now rose later = omega arith

pub told-along : (b c : Bool) → c ≡ b → IsTrue b → IsTrue c
told-along b c is h = let P : Bool → Type 0 = IsTrue in subst P (sym is) h

-- a connection that opens has a new number
new-number : (o : Opening) (start before now : links.State) (acts : List Act) (e : Event) (a : Answer) → OfLinks start before o acts → Shift e a before now
    → (k : ℕ) → is_opening k e ≡ true → has_come k (story_of acts) ≡ false
new-number o start before now acts e a of shift k opening = by (has_come k (story_of acts)) refl
  where
    by : (b : Bool) → has_come k (story_of acts) ≡ b → b ≡ false
    by true came = absurd (omega (arith, (shift.opens k opening).0, of.last k came))
    by false came = refl

stage-taken : (opening full come gone was_full closing : Bool) (first was now : links.Stage)
    → (opening ≡ true → (come ≡ false) × (gone ≡ false) × (was_full ≡ false) × (closing ≡ false))
    → was ≡ in_stage come (gone || was_full || closing) first → now ≡ in_stage opening full was
    → now ≡ in_stage (opening || come) (gone || ((opening && full) || was_full) || closing) first
stage-taken false full come gone was_full closing first was now fresh before is = is ∙ before
stage-taken true full come gone was_full closing first was now fresh before is =
    let none = fresh refl in
    rw (none.1, none.2, none.3) (by full is)
  where
    by : (full : Bool) → now ≡ in_stage true full was → now ≡ in_stage true (full || false || false) first
    by true e = e
    by false e = e

pub OfLinks-taken : (o : Opening) (start before now : links.State) (acts : List Act) (e : Event) (a : Answer) (s : Step) → s.event ≡ e
    → gives s.event s.answer (ledger o (story_of acts)) ≡ [] → OfLinks start before o acts → Shift e a before now → OfLinks start now o (takes s ∷ acts)
OfLinks-taken o start before now acts e a s is silent of shift = record {
  told = shift.told ∙ of.told;
  counted = RoseBy-later (length (lost acts)) start.faults before.faults now.faults of.counted shift.faults;
  last = λ k came. last k (or_cases (is_opening k s.event) (has_come k (story_of acts)) came);
  fresh = λ k none. let earlier = of.fresh k (or_parts (is_opening k s.event) (has_come k (story_of acts)) none).1 in
      (earlier.0, ap (λ xs. is_closing k xs) (answers-same o s (story_of acts) silent) ∙ earlier.1);
  up = λ k up. still k (open-before k s (story_of acts) up).1;
}
  where
    opening : (k : ℕ) → is_opening k s.event ≡ true → is_opening k e ≡ true
    opening k h = sym (ap (λ v. is_opening k v) is) ∙ h

    last : (k : ℕ) → (is_opening k s.event ≡ true) ⊎ (has_come k (story_of acts) ≡ true) → k ≤ now.last
    last k (inl h) = (shift.opens k (opening k h)).1
    last k (inr h) = omega (arith, of.last k h, shift.last)

    still : (k : ℕ) → (is_opening k s.event ≡ true) ⊎ (is_open k (story_of acts) ≡ true) → is_lost k acts ≡ false
    still k (inl h) = (of.fresh k (new-number o start before now acts e a of shift k (opening k h))).0
    still k (inr h) = of.up k h

pub OnLinks-taken : (o : Opening) (start before now : links.State) (acts : List Act) (e : Event) (a : Answer) (s : Step) → s.event ≡ e → s.answer ≡ a
    → gives s.event s.answer (ledger o (story_of acts)) ≡ [] → OfLinks start before o acts → Shift e a before now → IsTrue before.told
    → OnLinks start before o acts → OnLinks start now o (takes s ∷ acts)
OnLinks-taken o start before now acts e a s is answered silent of shift told on = record {
  come = (before.to_come, on.come, let P : Event → Type 0 = λ v. IsFirst v before.to_come now.to_come in subst P (sym is) (shift.come told));
  sent = λ k.
      let P : List Sent → Type 0 = λ xs. IsSent (is_lost k acts) (start.sent k) (now.sent k) (bytes_to k xs) in
      let Q : List ℕ → Type 0 = λ bytes. IsSent (is_lost k acts) (start.sent k) bytes (bytes_to k (answers o (story_of acts))) in
      subst P (sym same) (subst Q (sym (shift.sent told k)) (on.sent k));
  stage = λ k.
      let P : Event → Type 0 = λ v. now.stage k ≡ in_stage (is_opening k v || has_come k (story_of acts)) (is_lost k acts || ((is_opening k v && is_full s.answer) || came_full k (story_of acts)) || is_closing k (answers o (s ∷ story_of acts))) (start.stage k) in
      let A : Answer → Type 0 = λ v. now.stage k ≡ in_stage (is_opening k e || has_come k (story_of acts)) (is_lost k acts || ((is_opening k e && is_full v) || came_full k (story_of acts)) || is_closing k (answers o (s ∷ story_of acts))) (start.stage k) in
      let X : List Sent → Type 0 = λ xs. now.stage k ≡ in_stage (is_opening k e || has_come k (story_of acts)) (is_lost k acts || ((is_opening k e && is_full a) || came_full k (story_of acts)) || is_closing k xs) (start.stage k) in
      subst P (sym is) (subst A (sym answered) (subst X (sym same)
      (stage-taken (is_opening k e) (is_full a) (has_come k (story_of acts)) (is_lost k acts) (came_full k (story_of acts)) (is_closing k (answers o (story_of acts))) (start.stage k) (before.stage k) (now.stage k)
      (new k) (on.stage k) (shift.stage told k))));
  port = shift.port told ∙ on.port;
}
  where
    same : answers o (s ∷ story_of acts) ≡ answers o (story_of acts)
    same = answers-same o s (story_of acts) silent

    new : (k : ℕ) → is_opening k e ≡ true
        → (has_come k (story_of acts) ≡ false) × (is_lost k acts ≡ false) × (came_full k (story_of acts) ≡ false) × (is_closing k (answers o (story_of acts)) ≡ false)
    new k opening =
        let none = new-number o start before now acts e a of shift k opening in
        let fresh = of.fresh k none in
        (none, fresh.0, full-came k (story_of acts) none, fresh.1)

-- an event that came is the next act
pub Serving-taken : (e : Event) (a : Answer) (o : Opening) (start : links.State) (first : Begun) (read moments : Option (List ℕ)) (acts : List Act)
    (old new : View) (disk_old disk_new : disk.State) (before now : links.State)
    → Serving o start first acts old disk_old before read → phase acts ≡ resting → Comes e → (told : Stepped e a old new disk_old disk_new o (story_of acts))
    → gives e a (ledger o (story_of acts)) ≡ [] → Shift e a before now → ReadsClock e read moments
    → Serving o start first (takes (step_of e a new.store disk_new told.came told.refused) ∷ acts) new disk_new now moments
Serving-taken e a o start first read moments acts old new disk_old disk_new before now h rests comes told silent shift reads =
    let s = step_of e a new.store disk_new told.came told.refused in
    let P : Phase → Type 0 = λ p. IsDue p (waits_in (ledger o (story_of acts))) (takes s) in
    record {
      stands = told.stands;
      out = told.out ∙ ap (λ (g : List Given). old.line.out ++ map sent_by g) silent ∙ append-nil old.line.out ∙ h.out;
      due = (subst P (sym rests) comes, h.due);
      clock = (read, h.clock, reads);
      faults = RoseBy-add (faults_in o (story_of acts)) (faults_of (ledger o (story_of acts)).sound e a) first.faults disk_old.faults disk_new.faults h.faults told.counted;
      sure = sure-taken a e told.sure;
      always = OfLinks-taken o start before now acts e a s refl silent h.always shift;
      links = λ known. OnLinks-taken o start before now acts e a s refl refl silent h.always shift (told-along start.told before.told h.always.told known) (h.links known);
    }
