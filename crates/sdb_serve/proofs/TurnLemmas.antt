-- A Commit in a turn, whole.
use Rattle.std.proofs.Common.{◌≡◌, ◌≢◌, ◌⊎◌, inl, inr, ◌+◌, ◌<◌, ◌≤◌, ℕ, Bool, true, false, ◌||◌, ◌==◌, List, [], ◌∷◌, ◌++◌, length, map, Option, Some, None, IsTrue, refl, sym, ◌∙◌, ap, subst, arith, append-nil, length-append, Result, Ok, Err}
use Rattle.std.proofs.lemmas.Bool.{false≢true, eqb-false, ne_eqb}
use Rattle.sdb_arrivals.specs.Framing.{ends, is_open}
use Rattle.sdb_arrivals.specs.Queues.{Sent}
use Rattle.sdb_arrivals.specs.Story.{Answer, Done, Full, Disk, NotAStore, OutOfMemory, Arrival, Commit, Ended, Event, Step, brought}
use Rattle.sdb_core.specs.Kept.{Agrees, Holds, View}
use Rattle.sdb_core.specs.Ledgers.{Given, Ledger, Opening, commits, gives, in_hand, ledger, releases, sent_by}
use Rattle.sdb_core.specs.Told.{RoseBy, StandsFor, faults_in, faults_of, step_of}
use Rattle.sdb_disk.specs.Disk as disk
use Rattle.sdb_io.specs.Links as links
use Rattle.sdb_serve.specs.Acts.{Act, IsDue, IsEnd, has, is_opening, Phase, after_done, committing, over, does, has_come, is_lost, loses, lost, phase, story_of, taken, waits_in}
use Rattle.sdb_serve.specs.Stepping.{Stepped, emptied}
use Rattle.sdb_serve.specs.Sending.{AllTo, SendsAll, lost_on, newly}
use Rattle.sdb_core.proofs.StoryLemmas.{stands_with}
use Rattle.sdb_core.specs.Causes.{CommitCause}
use Rattle.sdb_serve.specs.Stepping.{to_do}
use Rattle.sdb_serve.proofs.DoLemmas.{commits-falls}
use Rattle.sdb_status.specs.declared.status.Status.{Status}
use Rattle.sdb_status.specs.declared.status.Status.TheVariants as status
use Rattle.sdb_serve.specs.Serving.{Begun, AreOf, CommitIsDue, Committed, InTurn, IsOf, IsQuiet, MayEnd, OfLinks, OnLinks, Serving}
use Rattle.sdb_serve.proofs.ActLemmas.{open-before, sure-done}
use Rattle.sdb_serve.proofs.CommitLemmas.{Adds, Adds-does, Adds-loses, OfLinks-sent, OnLinks-sent}
use Rattle.sdb_serve.proofs.HandLemmas.{AllTo-given, AreOf-back, AreOf-front, back-none, commits-in_hand, front-none, given-none, of_given}
use Rattle.sdb_serve.proofs.SendLemmas.{RoseBy-add}
use Rattle.sdb_serve.proofs.ServingLemmas.{RoseBy-later, told-along}
use Rattle.sdb_serve.proofs.SilentLemmas.{Serving-does}

-- after a Commit, whatever it was answered
pub record Sent-all (a : Answer) (sound : Bool) (o : Opening) (start : links.State) (first : Begun) (acts : List Act) (c : ℕ) (later : Option ℕ)
    (core : View) (disk_now : disk.State) (now : links.State) (moments : Option (List ℕ)) : Type 0 where
  pub after : List Act
  pub serving : Serving o start first after core disk_now now moments
  pub turn : InTurn c later o after
  pub phase : phase after ≡ after_done a Commit
  pub taken : taken after ≡ taken acts
  pub s : Step
  pub s_sound : s.sound ≡ sound
  pub ledger_is : ledger o (story_of after) ≡ commits (ledger o (story_of acts)).sound a o s (ledger o (story_of acts))

same-lost : (c : ℕ) (a b : Bool) → lost_on c a ≡ lost_on c b → a ≡ b
same-lost c true true e = refl
same-lost c false false e = refl
same-lost c true false e = cc
same-lost c false true e = cc

no-more : (n before now : ℕ) → RoseBy n before now → RoseBy (n + 0) before now
no-more n before now rose = omega arith

-- the faults that the story tells, with a Commit
commit-faults : (a : Answer) (o : Opening) (first : Begun) (acts : List Act) (old mid : View) (d0 d1 d3 : disk.State)
    → RoseBy (faults_in o (story_of acts)) first.faults d0.faults → RoseBy (faults_of (ledger o (story_of acts)).sound Commit a) d0.faults d1.faults → d1.faults ≤ d3.faults
    → RoseBy (faults_in o (story_of acts) + faults_of (ledger o (story_of acts)).sound Commit a) first.faults d3.faults
commit-faults a o first acts old mid d0 d1 d3 so_far now later =
    RoseBy-later (faults_in o (story_of acts) + faults_of (ledger o (story_of acts)).sound Commit a) first.faults d1.faults d3.faults
    (RoseBy-add (faults_in o (story_of acts)) (faults_of (ledger o (story_of acts)).sound Commit a) first.faults d0.faults d1.faults so_far now) later

-- nothing was in hand: nothing is released
quiet-commit : (a : Answer) (o : Opening) (start : links.State) (first : Begun) (moments : Option (List ℕ)) (acts : List Act) (c : ℕ) (known later : Option ℕ)
    (old mid after_sends new : View) (d0 d1 d3 : disk.State) (links0 links1 : links.State)
    → Serving o start first acts old d0 links0 moments → IsQuiet o acts → CommitIsDue o acts
    → (told : Stepped Commit a old mid d0 d1 o (story_of acts)) → after_sends ≡ emptied mid → d1.faults ≤ d3.faults
    → (mid.line.out ≡ [] → (later ≡ known) × (links1 ≡ links0))
    → MayEnd known later after_sends new d3 o (step_of Commit a mid.store d1 told.came told.refused ∷ story_of acts)
    → Sent-all a mid.store.sound o start first acts c later new d3 links1 moments
quiet-commit a o start first moments acts c known later old mid after_sends new d0 d1 d3 links0 links1 h quiet due told empty disk_later none ends =
    let s = step_of Commit a mid.store d1 told.came told.refused in
    let l = ledger o (story_of acts) in
    let both : of_given (gives Commit a l) ++ in_hand (ledger o (s ∷ story_of acts)) ≡ [] = commits-in_hand l.sound a o s l ∙ quiet in
    let silent : gives Commit a l ≡ [] = given-none (gives Commit a l) (front-none (of_given (gives Commit a l)) (in_hand (ledger o (s ∷ story_of acts))) both) in
    let out : mid.line.out ≡ [] = told.out ∙ ap (λ (g : List Given). old.line.out ++ map sent_by g) silent ∙ append-nil old.line.out ∙ h.out in
    let same = none out in
    let L : links.State → Type 0 = λ now. Serving o start first (does s ∷ acts) new d3 now moments in
    record {
      after = does s ∷ acts;
      serving =
          let stands = still (s ∷ story_of acts) same.0 ends in
          subst L (sym same.1) (Serving-does o start first moments acts s old new d0 d3 links0 h (due s refl) (λ k. refl) silent stands.0 (stands.1 ∙ ap (λ (v : View). v.line.out) empty)
          (commit-faults a o first acts old mid d0 d1 d3 h.faults told.counted disk_later) told.sure);
      turn = inl (back-none (of_given (gives Commit a l)) (in_hand (ledger o (s ∷ story_of acts))) both);
      phase = refl;
      taken = refl;
      s = s;
      s_sound = refl;
      ledger_is = refl;
    }
  where
    still : (story : List Step) → later ≡ known → MayEnd known later after_sends new d3 o story → StandsFor new d3 o story × (new.line.out ≡ after_sends.line.out)
    still story same (inl x) = (x.1, x.2)
    still story same (inr x) = absurd (x.5 same)

is_gone : (c : ℕ) (b : Bool) (k : ℕ) → lost_on c b ≡ Some k → b ≡ true
is_gone c true k e = refl
is_gone c false k e = cc

same_some : (a b : ℕ) → Some a ≡ Some b → a ≡ b
same_some a b e = cc

ends-due : (a : Answer) (waits : Bool) (e : Step) → IsEnd e.event → IsDue (after_done a Commit) waits (loses e)
ends-due Done waits e is = is
ends-due Full waits e is = is
ends-due Disk waits e is = is
ends-due (NotAStore file) waits e is = is
ends-due OutOfMemory waits e is = is

one-more : (c : ℕ) (lost : List ℕ) (before now : ℕ) → RoseBy (length lost + 1) before now → RoseBy (length (c ∷ lost)) before now
one-more c lost before now rose = omega arith

-- of connections that are open now, none is the one that was ended
ended-up : (k c : ℕ) (e : Step) (acts : List Act) (rest : List Step) → e.event ≡ Ended c
    → (ends k e.event (brought e) ≡ false) × ((is_opening k e.event ≡ true) ⊎ (is_open k rest ≡ true))
    → (is_open k rest ≡ true → is_lost k acts ≡ false) → ((k == c) || is_lost k acts) ≡ false
ended-up k c e acts rest is (still, was) kept =
    let apart : (c == k) ≡ false = sym (ap (λ v. ends k v (brought e)) is) ∙ still in
    ap (λ b. b || is_lost k acts) (ne_eqb k c (λ q. eqb-false c k apart (sym q))) ∙ kept (before was)
  where
    before : (is_opening k e.event ≡ true) ⊎ (is_open k rest ≡ true) → is_open k rest ≡ true
    before (inl h) = absurd (false≢true (sym (ap (is_opening k) is) ∙ h))
    before (inr h) = h

-- all that is in hand is of one connection: what is released goes to it
busy-commit : (a : Answer) (o : Opening) (start : links.State) (first : Begun) (moments : Option (List ℕ)) (acts : List Act) (c : ℕ) (known later : Option ℕ)
    (old mid after_sends new : View) (d0 d1 d3 : disk.State) (links0 links1 : links.State)
    → Serving o start first acts old d0 links0 moments → IsOf c known o acts → CommitIsDue o acts
    → (told : Stepped Commit a old mid d0 d1 o (story_of acts)) → after_sends ≡ emptied mid → d1.faults ≤ d3.faults
    → (links1.told ≡ links0.told) → (links1.last ≡ links0.last) → (links0.faults ≤ links1.faults)
    → ((k : ℕ) (gone : Bool) → AllTo k mid.line.out → known ≡ lost_on k gone → SendsAll k mid.line.out gone later links0 links1)
    → MayEnd known later after_sends new d3 o (step_of Commit a mid.store d1 told.came told.refused ∷ story_of acts)
    → Sent-all a mid.store.sound o start first acts c later new d3 links1 moments
busy-commit a o start first moments acts c known later old mid after_sends new d0 d1 d3 links0 links1 h of due told empty disk_later links_told last faults sent ends = by ends
  where
    was_not : (b : Bool) → known ≡ lost_on c b → later ≡ lost_on c true → later ≢ known → b ≡ false
    was_not true is later_is differs = absurd (differs (later_is ∙ sym is))
    was_not false is later_is differs = refl

    s : Step
    s = step_of Commit a mid.store d1 told.came told.refused

    l : Ledger
    l = ledger o (story_of acts)

    outs : List Sent
    outs = map sent_by (gives Commit a l)

    out : mid.line.out ≡ outs
    out = told.out ∙ ap (λ l. l ++ outs) h.out

    all : AreOf c (of_given (gives Commit a l) ++ in_hand (ledger o (s ∷ story_of acts)))
    all = let P : List Arrival → Type 0 = AreOf c in subst P (sym (commits-in_hand l.sound a o s l)) of.all

    to : AllTo c outs
    to = AllTo-given c (gives Commit a l) (AreOf-front c (of_given (gives Commit a l)) (in_hand (ledger o (s ∷ story_of acts))) all)

    sends : SendsAll c outs (is_lost c acts) later links0 links1
    sends = let P : List Sent → Type 0 = λ xs. AllTo c xs → SendsAll c xs (is_lost c acts) later links0 links1 in
        subst P out (λ all_to. sent c (is_lost c acts) all_to of.is) to

    empty_out : after_sends.line.out ≡ []
    empty_out = ap (λ (v : View). v.line.out) empty

    gone_before : (b d : Bool) → (b ≡ true → d ≡ true) → None ≡ lost_on c d → b ≡ false
    gone_before false d kept e = refl
    gone_before true false kept e = absurd (false≢true (kept refl))
    gone_before true true kept e = cc

    not_more : (later ≡ known) ⊎ (later ≡ None) → later ≡ known
    not_more (inl same) = same
    not_more (inr none) = none ∙ sym (of.is ∙ ap (lost_on c) (gone_before (is_lost c acts) sends.now_gone sends.kept (sym none ∙ sends.is)))

    kept_up : (k : ℕ) → is_open k (s ∷ story_of acts) ≡ true → is_lost k acts ≡ false
    kept_up k up = elim ((open-before k s (story_of acts) up).1) [ inl e ↦ absurd (false≢true e) | inr e ↦ h.always.up k e ]

    by : MayEnd known later after_sends new d3 o (s ∷ story_of acts) → Sent-all a mid.store.sound o start first acts c later new d3 links1 moments
    by (inl x) =
        let stays : sends.now_gone ≡ is_lost c acts = same-lost c sends.now_gone (is_lost c acts) (sym sends.is ∙ not_more x.0 ∙ of.is) in
        let G : Bool → Type 0 = λ b. Adds o acts (does s ∷ acts) c outs b in
        let adds = subst G (sym stays) (Adds-does o acts s c refl) in
        record {
          after = does s ∷ acts;
          serving = record {
            stands = x.1;
            out = x.2 ∙ empty_out;
            due = (due s refl, h.due);
            clock = h.clock;
            faults = commit-faults a o first acts old mid d0 d1 d3 h.faults told.counted disk_later;
            sure = sure-done a Commit told.sure;
            always = OfLinks-sent o start links0 links1 acts (does s ∷ acts) c outs sends.now_gone to of.came adds
                (RoseBy-later (length (lost acts)) start.faults links0.faults links1.faults h.always.counted faults) links_told last kept_up h.always;
            links = λ known. OnLinks-sent o start links0 links1 acts (does s ∷ acts) c outs later to of.came sends adds (told-along start.told links0.told h.always.told known) (h.links known);
          };
          turn = inr (record {
            all = AreOf-back c (of_given (gives Commit a l)) (in_hand (ledger o (s ∷ story_of acts))) all;
            came = adds.has_come c ∙ of.came;
            is = not_more x.0 ∙ of.is;
          });
          phase = refl;
          taken = refl;
          s = s;
          s_sound = refl;
          ledger_is = refl;
        }
    by (inr x) =
        let e = step_of (Ended x.0) x.1 new.store d3 x.2 x.3 in
        let gone : sends.now_gone ≡ true = is_gone c sends.now_gone x.0 (sym sends.is ∙ x.4) in
        let before : is_lost c acts ≡ false = was_not (is_lost c acts) of.is (sends.is ∙ ap (lost_on c) gone) x.5 in
        let here : x.0 ≡ c = same_some x.0 c (sym x.4 ∙ sends.is ∙ ap (lost_on c) gone) in
        let G : Bool → Type 0 = λ b. Adds o acts (loses e ∷ does s ∷ acts) c outs b in
        let adds = subst G (sym gone) (Adds-loses o acts s e c refl (ap Ended here)) in
        let one : RoseBy 1 links0.faults links1.faults = (let P : Bool → Bool → Type 0 = λ b d. RoseBy (newly b d) links0.faults links1.faults in
        let Q : Bool → Type 0 = λ b. P b true in let R : Bool → Type 0 = λ d. P (is_lost c acts) d in subst Q before (subst R gone sends.counted)) in
        record {
          after = loses e ∷ does s ∷ acts;
          serving = record {
            stands = x.6;
            out = x.7 ∙ empty_out;
            due = (ends-due a (waits_in (ledger o (s ∷ story_of acts))) e tt, (due s refl, h.due));
            clock = h.clock;
            faults = RoseBy-later (faults_in o (s ∷ story_of acts) + 0) first.faults d3.faults d3.faults
                (no-more (faults_in o (s ∷ story_of acts)) first.faults d3.faults (commit-faults a o first acts old mid d0 d1 d3 h.faults told.counted disk_later)) (omega arith);
            sure = sure-done a Commit told.sure;
            always = OfLinks-sent o start links0 links1 acts (loses e ∷ does s ∷ acts) c outs sends.now_gone to of.came adds
                (one-more x.0 (lost acts) start.faults links1.faults (RoseBy-add (length (lost acts)) 1 start.faults links0.faults links1.faults h.always.counted one)) links_told last
                (λ k up. ended-up k x.0 e acts (s ∷ story_of acts) refl (open-before k e (s ∷ story_of acts) up) (kept_up k)) h.always;
            links = λ known. OnLinks-sent o start links0 links1 acts (loses e ∷ does s ∷ acts) c outs later to of.came sends adds (told-along start.told links0.told h.always.told known) (h.links known);
          };
          turn = inr (record {
            all = AreOf-back c (of_given (gives Commit a l)) (in_hand (ledger o (s ∷ story_of acts))) all;
            came = adds.has_come c ∙ of.came;
            is = sends.is ∙ ap (lost_on c) (sym adds.gone);
          });
          phase = refl;
          taken = refl;
          s = s;
          s_sound = refl;
          ledger_is = refl;
        }

pub any-commit : (a : Answer) (o : Opening) (start : links.State) (first : Begun) (moments : Option (List ℕ)) (acts : List Act) (c : ℕ) (known later : Option ℕ)
    (old mid after_sends new : View) (d0 d1 d3 : disk.State) (links0 links1 : links.State)
    → Serving o start first acts old d0 links0 moments → InTurn c known o acts → CommitIsDue o acts
    → Stepped Commit a old mid d0 d1 o (story_of acts) → after_sends ≡ emptied mid → d1.faults ≤ d3.faults
    → (links1.told ≡ links0.told) → (links1.last ≡ links0.last) → (links0.faults ≤ links1.faults)
    → (mid.line.out ≡ [] → (later ≡ known) × (links1 ≡ links0))
    → ((k : ℕ) (gone : Bool) → AllTo k mid.line.out → known ≡ lost_on k gone → SendsAll k mid.line.out gone later links0 links1)
    → ((story : List Step) → StandsFor after_sends d1 o story → MayEnd known later after_sends new d3 o story)
    → Sent-all a mid.store.sound o start first acts c later new d3 links1 moments
any-commit a o start first moments acts c known later old mid after_sends new d0 d1 d3 links0 links1 h turn due told empty disk_later links_told last faults none sends ends = by turn
  where
    story : List Step
    story = step_of Commit a mid.store d1 told.came told.refused ∷ story_of acts

    ended : MayEnd known later after_sends new d3 o story
    ended = let P : View → Type 0 = λ v. StandsFor v d1 o story in ends story (subst P (sym empty) (stands_with mid [] d1 o story told.stands))

    by : InTurn c known o acts → Sent-all a mid.store.sound o start first acts c later new d3 links1 moments
    by (inl quiet) = quiet-commit a o start first moments acts c known later old mid after_sends new d0 d1 d3 links0 links1 h quiet due told empty disk_later none ended
    by (inr of) = busy-commit a o start first moments acts c known later old mid after_sends new d0 d1 d3 links0 links1 h of due told empty disk_later links_told last faults sends ended

-- ---- a Commit, by what its answer leads to

not-lost : (a : Answer) → after_done a Commit ≡ committing → (file : ℕ) → a ≡ NotAStore file → ⊥
not-lost a leads file is = no (sym leads ∙ ap (λ v. after_done v Commit) is)
  where
    no : committing ≡ over (status.NotAStore file) → ⊥
    no e = cc

hand-after : (a : Answer) (o : Opening) (s : Step) (l now : Ledger) → now ≡ commits l.sound a o s l → length (in_hand now) ≤ length (in_hand l)
hand-after a o s l now is =
    omega (arith, ap (λ (v : Ledger). length (in_hand v)) is, ap length (commits-in_hand l.sound a o s l), length-append (of_given (releases l.sound a l)) (in_hand (commits l.sound a o s l)))

pub committed-ok : (a : Answer) (o : Opening) (start : links.State) (first : Begun) (moments : Option (List ℕ)) (acts : List Act) (c : ℕ) (later : Option ℕ)
    (old mid new : View) (d0 d1 d3 : disk.State) (links1 : links.State)
    → Sent-all a mid.store.sound o start first acts c later new d3 links1 moments → after_done a Commit ≡ committing
    → CommitCause a old.store mid.store d0 d1 → Committed o start first acts c (Ok later) new d3 links1 moments
committed-ok a o start first moments acts c later old mid new d0 d1 d3 links1 all leads cause =
    let l = ledger o (story_of acts) in
    record {
      after = all.after;
      serving = all.serving;
      turn = all.turn;
      phase = all.phase ∙ leads;
      taken = all.taken;
      hand = hand-after a o all.s l (ledger o (story_of all.after)) all.ledger_is;
      less = λ waits.
          let P : Ledger → Type 0 = λ now. to_do now < to_do l in
          subst P (sym all.ledger_is)
          (commits-falls l.sound a o all.s l refl waits (λ unsound. cause.lost (sym all.s_sound ∙ unsound)) cause.answers (not-lost a leads));
    }

pub committed-err : (a : Answer) (o : Opening) (start : links.State) (first : Begun) (moments : Option (List ℕ)) (acts : List Act) (c : ℕ) (later : Option ℕ) (found : Status)
    (mid new : View) (d3 : disk.State) (links1 : links.State)
    → Sent-all a mid.store.sound o start first acts c later new d3 links1 moments → after_done a Commit ≡ over found
    → Committed o start first acts c (Err found) new d3 links1 moments
committed-err a o start first moments acts c later found mid new d3 links1 all leads =
    let l = ledger o (story_of acts) in
    record {
      after = all.after;
      serving = all.serving;
      turn = tt;
      phase = all.phase ∙ leads;
      taken = all.taken;
      hand = hand-after a o all.s l (ledger o (story_of all.after)) all.ledger_is;
      less = λ waits. tt;
    }
