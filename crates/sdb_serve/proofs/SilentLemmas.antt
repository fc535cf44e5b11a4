-- Acts that release nothing and open no connection.
use Rattle.std.proofs.Common.{◌≡◌, ◌≢◌, ◌⊎◌, inl, inr, ◌≤◌, ℕ, Bool, true, false, ◌||◌, ◌&&◌, List, [], ◌∷◌, ◌++◌, length, Option, IsTrue, refl, sym, ◌∙◌, ap, subst, append-nil, map}
use Rattle.std.proofs.lemmas.Bool.{false≢true}
use Rattle.sdb_arrivals.specs.Framing.{is_open}
use Rattle.sdb_arrivals.specs.Queues.{Sent}
use Rattle.sdb_arrivals.specs.Story.{Answer, NotAStore, Event, Commit, Work, Step}
use Rattle.sdb_core.specs.Kept.{View}
use Rattle.sdb_core.specs.Ledgers.{Given, Opening, gives, ledger, sent_by}
use Rattle.sdb_core.specs.Told.{RoseBy, StandsFor, faults_in}
use Rattle.sdb_disk.specs.Disk as disk
use Rattle.sdb_io.specs.Links as links
use Rattle.sdb_serve.specs.Acts.{Act, IsDue, came_full, does, has_come, is_full, is_lost, is_opening, lost, phase, story_of, waits_in}
use Rattle.sdb_serve.specs.Sending.{IsSent, answers, bytes_to, in_stage, is_closing}
use Rattle.sdb_serve.specs.Serving.{Begun, OfLinks, OnLinks, Serving}
use Rattle.sdb_serve.proofs.ActLemmas.{answers-same, open-before, sure-done}

OfLinks-does : (o : Opening) (start now : links.State) (acts : List Act) (s : Step) → ((k : ℕ) → is_opening k s.event ≡ false)
    → gives s.event s.answer (ledger o (story_of acts)) ≡ [] → OfLinks start now o acts → OfLinks start now o (does s ∷ acts)
OfLinks-does o start now acts s closed silent of = record {
  told = of.told;
  counted = of.counted;
  last = λ k came. of.last k (sym (same k) ∙ came);
  fresh = λ k none. let earlier = of.fresh k (sym (same k) ∙ none) in
      (earlier.0, ap (λ xs. is_closing k xs) (answers-same o s (story_of acts) silent) ∙ earlier.1);
  up = λ k up. still k (open-before k s (story_of acts) up).1;
}
  where
    same : (k : ℕ) → has_come k (s ∷ story_of acts) ≡ has_come k (story_of acts)
    same k = ap (λ b. b || has_come k (story_of acts)) (closed k)

    still : (k : ℕ) → (is_opening k s.event ≡ true) ⊎ (is_open k (story_of acts) ≡ true) → is_lost k acts ≡ false
    still k (inl h) = absurd (false≢true (sym (closed k) ∙ h))
    still k (inr h) = of.up k h

OnLinks-does : (o : Opening) (start now : links.State) (acts : List Act) (s : Step) → ((k : ℕ) → is_opening k s.event ≡ false)
    → gives s.event s.answer (ledger o (story_of acts)) ≡ [] → OnLinks start now o acts → OnLinks start now o (does s ∷ acts)
OnLinks-does o start now acts s closed silent on = record {
  come = on.come;
  sent = λ k. let P : List Sent → Type 0 = λ xs. IsSent (is_lost k acts) (start.sent k) (now.sent k) (bytes_to k xs) in subst P (sym same) (on.sent k);
  stage = λ k. on.stage k
      ∙ ap (λ b. in_stage b (is_lost k acts || came_full k (story_of acts) || is_closing k (answers o (story_of acts))) (start.stage k)) (sym (ap (λ b. b || has_come k (story_of acts)) (closed k)))
      ∙ ap (λ b. in_stage (has_come k (s ∷ story_of acts)) (is_lost k acts || b || is_closing k (answers o (story_of acts))) (start.stage k)) (sym (ap (λ b. (b && is_full s.answer) || came_full k (story_of acts)) (closed k)))
      ∙ ap (λ xs. in_stage (has_come k (s ∷ story_of acts)) (is_lost k acts || came_full k (s ∷ story_of acts) || is_closing k xs) (start.stage k)) (sym same);
  port = on.port;
}
  where
    same : answers o (s ∷ story_of acts) ≡ answers o (story_of acts)
    same = answers-same o s (story_of acts) silent

-- such an act that is due
pub Serving-does : (o : Opening) (start : links.State) (first : Begun) (moments : Option (List ℕ)) (acts : List Act) (s : Step) (old new : View) (disk_old disk_new : disk.State) (now : links.State)
    → Serving o start first acts old disk_old now moments → IsDue (phase acts) (waits_in (ledger o (story_of acts))) (does s)
    → ((k : ℕ) → is_opening k s.event ≡ false) → gives s.event s.answer (ledger o (story_of acts)) ≡ [] → StandsFor new disk_new o (s ∷ story_of acts) → new.line.out ≡ []
    → RoseBy (faults_in o (s ∷ story_of acts)) first.faults disk_new.faults → ((file : ℕ) → s.answer ≢ NotAStore file)
    → Serving o start first (does s ∷ acts) new disk_new now moments
Serving-does o start first moments acts s old new disk_old disk_new now h due closed silent stands out faults sure = record {
  stands = stands;
  out = out;
  due = (due, h.due);
  clock = h.clock;
  faults = faults;
  sure = sure-done s.answer s.event sure;
  always = OfLinks-does o start now acts s closed silent h.always;
  links = λ told. OnLinks-does o start now acts s closed silent (h.links told);
}
