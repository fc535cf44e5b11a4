-- What the links gave, as the server takes it.
use Rattle.std.proofs.Common.{◌≡◌, ◌≢◌, ◌⊎◌, inl, inr, ◌+◌, ◌≤◌, ◌<◌, min, ℕ, Bool, true, false, ◌==◌, ◌||◌, if◌then◌else◌, List, [], ◌∷◌, ◌++◌, length, map, take, drop, Option, None, Some, IsTrue, refl, sym, ◌∙◌, ap, subst, arith}
use Rattle.std.proofs.lemmas.Bool.{false≢true, cases_Bool, cases_eq, cases_lt, eqb-true, eq-eqb, ne_eqb}
use Rattle.std.proofs.lemmas.List.{take_all, drop_all}
use Rattle.sdb_arrivals.specs.Framing.{arrivals, brings_by, brings_if, is_open}
use Rattle.sdb_arrivals.specs.Story.{Answer, Done, Full, Disk, NotAStore, OutOfMemory, Arrival, Event, Opened, Piece, Ended, Framed, Step, brought}
use Rattle.sdb_http.specs.Messages.{Reply}
use Rattle.sdb_core.specs.Ledgers.{Ledger, Opening, comes, in_hand, ledger}
use Rattle.sdb_core.specs.Told.{IsStep}
use Rattle.sdb_io.specs.Links as links
use Rattle.sdb_io.specs.Links.{gives, opened, closed, with_rest}
use Rattle.sdb_io.specs.declared.links.LinkEvent.TheVariants as given
use Rattle.sdb_serve.specs.Acts.{Act, is_full, is_opening, is_lost, has_come, story_of, takes}
use Rattle.sdb_serve.specs.Coming.{IsFirst, most_piece}
use Rattle.sdb_serve.specs.Sending.{in_stage, lost_on}
use Rattle.sdb_serve.specs.Serving.{AreOf, Gave, InTurn, IsOf, IsQuiet, OfLinks, Refuses, SteadyLinks}
use Rattle.sdb_serve.proofs.ActLemmas.{open-came}
use Rattle.sdb_serve.proofs.HandLemmas.{in_hand-arrived}
use Rattle.sdb_serve.proofs.ServingLemmas.{Shift, told-along}

-- the stage of each connection, where one was opened and maybe closed at once
opened-stage : (full : Bool) (conn k : ℕ) (was mid now : links.Stage) → mid ≡ (if k == conn then opened else was)
    → ((k ≡ conn) → now ≡ in_stage true full mid) → ((k ≢ conn) → now ≡ mid) → now ≡ in_stage (conn == k) full was
opened-stage full conn k was mid now given here others = by (cases_eq k conn)
  where
    by : (k ≡ conn) ⊎ (k ≢ conn) → now ≡ in_stage (conn == k) full was
    by (inl is) = here is ∙ any full ∙ ap (λ b. in_stage b full was) (sym (eq-eqb conn k (sym is)))
      where
        any : (full : Bool) → in_stage true full mid ≡ in_stage true full was
        any true = refl
        any false = refl
    by (inr other) = others other ∙ given ∙ ap (λ b. if b then opened else was) (ne_eqb k conn other) ∙ ap (λ b. in_stage b full was) (sym (ne_eqb conn k (λ e. other (sym e))))

pub Shift-opened : (a : Answer) (conn : ℕ) (buf : List ℕ) (before mid now : links.State) → Gave (given.Opened conn) buf before mid → SteadyLinks mid now
    → (IsTrue mid.told → Refuses a conn mid now) → Shift (Opened conn) a before now
Shift-opened a conn buf before mid now gave steady refuses = record {
  told = steady.told ∙ gave.told;
  faults = omega (arith, gave.faults, steady.faults);
  last = omega (arith, gave.later, gave.last, steady.last);
  opens = λ k opening. let here : conn ≡ k = eqb-true conn k opening in
      (let P : ℕ → Type 0 = λ n. before.last < n in subst P here gave.later, let Q : ℕ → Type 0 = λ n. n ≤ now.last in subst Q here (omega (arith, gave.last, steady.last)));
  come = λ told. let P : List links.Step → Type 0 = λ l. IsFirst (Opened conn) before.to_come l in
      subst P (sym (come a (refuses (along told)))) ((gave.comes told).given);
  sent = λ told k. sent a (refuses (along told)) k ∙ (gave.comes told).sent k;
  stage = λ told k. stage a (refuses (along told)) k (gave.comes told);
  port = λ told. port a (refuses (along told)) ∙ (gave.comes told).port;
}
  where
    along : IsTrue before.told → IsTrue mid.told
    along = told-along before.told mid.told gave.told

    come : (a : Answer) → Refuses a conn mid now → now.to_come ≡ mid.to_come
    come Full r = r.to_come
    come Done r = ap (λ (v : links.State). v.to_come) r
    come Disk r = ap (λ (v : links.State). v.to_come) r
    come (NotAStore file) r = ap (λ (v : links.State). v.to_come) r
    come OutOfMemory r = ap (λ (v : links.State). v.to_come) r

    sent : (a : Answer) → Refuses a conn mid now → (k : ℕ) → now.sent k ≡ mid.sent k
    sent Full r k = r.sent k
    sent Done r k = ap (λ (v : links.State). v.sent k) r
    sent Disk r k = ap (λ (v : links.State). v.sent k) r
    sent (NotAStore file) r k = ap (λ (v : links.State). v.sent k) r
    sent OutOfMemory r k = ap (λ (v : links.State). v.sent k) r

    port : (a : Answer) → Refuses a conn mid now → now.port ≡ mid.port
    port Full r = r.port
    port Done r = ap (λ (v : links.State). v.port) r
    port Disk r = ap (λ (v : links.State). v.port) r
    port (NotAStore file) r = ap (λ (v : links.State). v.port) r
    port OutOfMemory r = ap (λ (v : links.State). v.port) r

    now_opened : (k : ℕ) → links.Comes (given.Opened conn) buf before mid → k ≡ conn → mid.stage k ≡ opened
    now_opened k comes is = comes.stage k ∙ ap (λ b. if b then opened else before.stage k) (eq-eqb k conn is)

    unless_full : (k : ℕ) → links.Comes (given.Opened conn) buf before mid → now ≡ mid → now.stage k ≡ in_stage (conn == k) false (before.stage k)
    unless_full k comes r = opened-stage false conn k (before.stage k) (mid.stage k) (now.stage k) (comes.stage k)
        (λ is. ap (λ (v : links.State). v.stage k) r ∙ now_opened k comes is) (λ other. ap (λ (v : links.State). v.stage k) r)

    stage : (a : Answer) → Refuses a conn mid now → (k : ℕ) → links.Comes (given.Opened conn) buf before mid → now.stage k ≡ in_stage (conn == k) (is_full a) (before.stage k)
    stage Full r k comes = opened-stage true conn k (before.stage k) (mid.stage k) (now.stage k) (comes.stage k)
        (λ is. ap now.stage is ∙ r.stage ∙ ap links.closed_after (ap mid.stage (sym is) ∙ now_opened k comes is)) (r.others k)
    stage Done r k comes = unless_full k comes r
    stage Disk r k comes = unless_full k comes r
    stage (NotAStore file) r k comes = unless_full k comes r
    stage OutOfMemory r k comes = unless_full k comes r

pub Shift-ended : (a : Answer) (conn : ℕ) (buf : List ℕ) (before now : links.State) → Gave (given.Ended conn) buf before now → Shift (Ended conn) a before now
Shift-ended a conn buf before now gave = record {
  told = gave.told;
  faults = gave.faults;
  last = omega (arith, gave.last);
  opens = λ k opening. absurd (false≢true opening);
  come = λ told. (gave.comes told).given;
  sent = λ told. (gave.comes told).sent;
  stage = λ told k. (gave.comes told).stage k;
  port = λ told. (gave.comes told).port;
}

-- a piece is the front of what came of it
front-of : (n : ℕ) (buf bytes all : List ℕ) → length buf ≡ most_piece → n ≡ min (length buf) (length all) → take n buf ≡ bytes → take n buf ≡ take n all
    → (bytes ≡ take most_piece all) × (drop n all ≡ drop most_piece all)
front-of n buf bytes all full is bytes_are same = by (cases_lt (length all) most_piece)
  where
    whole : (m : ℕ) → length all ≤ m → take m all ≡ all
    whole m long = take_all m all long

    none : (m : ℕ) → length all ≤ m → drop m all ≡ []
    none m long = drop_all m all long

    by : (length all < most_piece) ⊎ (most_piece ≤ length all) → (bytes ≡ take most_piece all) × (drop n all ≡ drop most_piece all)
    by (inl short) =
        (sym bytes_are ∙ same ∙ whole n (omega (arith, is, full)) ∙ sym (whole most_piece (omega arith)), none n (omega (arith, is, full)) ∙ sym (none most_piece (omega arith)))
    by (inr long) =
        let m : n ≡ most_piece = omega (arith, is, full) in
        (sym bytes_are ∙ same ∙ ap (λ v. take v all) m, ap (λ v. drop v all) m)

pub Shift-piece : (a : Answer) (conn moment : ℕ) (bytes buf : List ℕ) (before now : links.State) → Gave (given.Piece conn (length bytes)) buf before now
    → length buf ≡ 65536 → take (length bytes) buf ≡ bytes → Shift (Piece conn moment bytes) a before now
Shift-piece a conn moment bytes buf before now gave full front = record {
  told = gave.told;
  faults = gave.faults;
  last = omega (arith, gave.last);
  opens = λ k opening. absurd (false≢true opening);
  come = λ told. come ((gave.comes told).given);
  sent = λ told. (gave.comes told).sent;
  stage = λ told k. (gave.comes told).stage k;
  port = λ told. (gave.comes told).port;
}
  where
    come : links.Gives (given.Piece conn (length bytes)) buf before.to_come now.to_come → IsFirst (Piece conn moment bytes) before.to_come now.to_come
    come came =
        let parts = front-of (length bytes) buf bytes came.0 full came.3 front came.4 in
        (came.0, came.1, came.2, parts.0, came.5 ∙ ap (λ l. with_rest conn l came.1) parts.1)

-- ---- what a piece brings

of-arrivals : (conn moment before : ℕ) (replies : List Reply) (came : List Arrival) → map (λ (w : Arrival). w.framed) came ≡ arrivals conn moment before replies → AreOf conn came
of-arrivals conn moment before [] [] e = tt
of-arrivals conn moment before [] (w ∷ came) e = cc
of-arrivals conn moment before (reply ∷ replies) [] e = cc
of-arrivals conn moment before (reply ∷ replies) (w ∷ came) e =
    let first : w.framed ≡ record { conn = conn; number = before + 1; moment = moment; request = reply } = cc in
    let rest : map (λ (v : Arrival). v.framed) came ≡ arrivals conn moment (before + 1) replies = cc in
    (ap (λ (f : Framed). f.conn) first, of-arrivals conn moment (before + 1) replies came rest)

none-brought : (came : List Arrival) → map (λ (w : Arrival). w.framed) came ≡ [] → came ≡ []
none-brought [] e = refl
none-brought (w ∷ came) e = cc

pub InTurn-piece : (a : Answer) (o : Opening) (start now : links.State) (acts : List Act) (conn moment : ℕ) (bytes : List ℕ) (s : Step) → s.event ≡ Piece conn moment bytes → s.answer ≡ a
    → in_hand (ledger o (s ∷ story_of acts)) ≡ in_hand (comes a o s (ledger o (story_of acts)))
    → brings_by a conn moment (brought s) (story_of acts)
    → IsQuiet o acts → OfLinks start now o acts → InTurn conn None o (takes s ∷ acts)
InTurn-piece Full o start now acts conn moment bytes s is answered hand brings quiet of = inl (hand ∙ quiet)
InTurn-piece Disk o start now acts conn moment bytes s is answered hand brings quiet of = inl (hand ∙ quiet)
InTurn-piece (NotAStore file) o start now acts conn moment bytes s is answered hand brings quiet of = inl (hand ∙ quiet)
InTurn-piece OutOfMemory o start now acts conn moment bytes s is answered hand brings quiet of = inl (hand ∙ quiet)
InTurn-piece Done o start now acts conn moment bytes s is answered hand brings quiet of = by (is_open conn (story_of acts)) refl brings
  where
    l : Ledger
    l = ledger o (story_of acts)

    came : in_hand (ledger o (s ∷ story_of acts)) ≡ s.came
    came = hand ∙ in_hand-arrived l.sound o s.refused s.came l ∙ ap (λ h. h ++ s.came) quiet

    by : (b : Bool) → is_open conn (story_of acts) ≡ b → brings_if b conn moment (brought s) (story_of acts) → InTurn conn None o (takes s ∷ acts)
    by false shut none = inl (came ∙ none-brought s.came none)
    by true up some = inr (record {
      all = let P : List Arrival → Type 0 = AreOf conn in subst P (sym came) (of-arrivals conn moment _ some.0 s.came some.1);
      came = ap (λ e. is_opening conn e || has_come conn (story_of acts)) is ∙ open-came conn (story_of acts) up;
      is = ap (lost_on conn) (sym (of.up conn up));
    })
