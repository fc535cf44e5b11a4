-- A piece and all that is due after it.
use Rattle.std.proofs.Common.{◌≡◌, ◌⊎◌, inl, inr, ℕ, suc, ◌+◌, ◌≤◌, ◌<◌, ◌^◌, ◌==◌, Bool, true, false, List, [], ◌∷◌, ◌++◌, length, map, filter, Option, None, IsTrue, IfSome, Result, Ok, Err, OnOk, option_map, refl, sym, ◌∙◌, ap, subst, arith, length-append, append-nil, eq-eqb}
use Rattle.std.proofs.lemmas.List.{length-map}
use Rattle.std.proofs.lemmas.List.Elements.{filter-append}
use Rattle.sdb_arrivals.specs.Framing.{AreMessages, arrivals, brings_by, brings_if, bytes_taken, is_open, of}
use Rattle.sdb_arrivals.specs.Story.{Answer, Done, Full, Disk, NotAStore, OutOfMemory, Arrival, Event, Opened, Piece, Ended, Framed, Step, brought, framed_in}
use Rattle.sdb_core.specs.Kept.{View}
use Rattle.sdb_core.specs.Ledgers.{Ledger, Opening, comes, in_hand, ledger}
use Rattle.sdb_core.specs.Told.{step_of}
use Rattle.sdb_disk.specs.Disk as disk
use Rattle.sdb_http.specs.Messages.{Reply}
use Rattle.sdb_io.specs.Links as links
use Rattle.sdb_serve.specs.Acts.{Act, Phase, after_taken, committing, phase, resting, story_of, taken, takes, to_commit}
use Rattle.sdb_serve.specs.Serving.{Begun, InTurn, IsQuiet, LeadsTo, Serving, Went}
use Rattle.sdb_serve.specs.Coming.{ReadsClock}
use Rattle.sdb_serve.specs.Stepping.{Stepped}
use Rattle.sdb_serve.proofs.HandLemmas.{in_hand-arrived}
use Rattle.sdb_serve.proofs.ServingLemmas.{Serving-taken, Shift}
use Rattle.sdb_serve.proofs.ShiftLemmas.{InTurn-piece}
use Rattle.sdb_serve.proofs.WentLemmas.{any-ok}
use Rattle.sdb_status.specs.declared.status.Status.{Status}

-- ---- what one piece brings is no more than what came on its connection

of-own : (conn moment before : ℕ) (replies : List Reply) → length (of conn (arrivals conn moment before replies)) ≡ length replies
of-own conn moment before [] = refl
of-own conn moment before (reply ∷ replies) =
    rw (eq-eqb conn conn refl) (ap suc (of-own conn moment (before + 1) replies))

arrivals-length : (conn moment before : ℕ) (replies : List Reply) → length (arrivals conn moment before replies) ≡ length replies
arrivals-length conn moment before [] = refl
arrivals-length conn moment before (reply ∷ replies) = ap suc (arrivals-length conn moment (before + 1) replies)

own-brought : (conn moment before : ℕ) (replies : List Reply) (s : Step) (story : List Step) → brought s ≡ arrivals conn moment before replies
    → length s.came ≤ length (of conn (framed_in (s ∷ story)))
own-brought conn moment before replies s story is =
    let all : length (of conn (framed_in (s ∷ story))) ≡ length (of conn (framed_in story)) + length (of conn (brought s)) =
    ap length (filter-append (λ (w : Framed). w.conn == conn) (framed_in story) (brought s)) ∙ length-append (of conn (framed_in story)) (of conn (brought s)) in
    let own : length (of conn (brought s)) ≡ length replies = ap (λ l. length (of conn l)) is ∙ of-own conn moment before replies in
    let came : length s.came ≡ length replies = sym (length-map s.came (λ (w : Arrival). w.framed)) ∙ ap length is ∙ arrivals-length conn moment before replies in
    omega (arith, all, own, came)

pub hand-piece : (a : Answer) (o : Opening) (acts : List Act) (conn moment : ℕ) (s : Step) (most : ℕ)
    → in_hand (ledger o (s ∷ story_of acts)) ≡ in_hand (comes a o s (ledger o (story_of acts)))
    → brings_by a conn moment (brought s) (story_of acts) → IsQuiet o acts → length (of conn (framed_in (s ∷ story_of acts))) ≤ most
    → length (in_hand (ledger o (s ∷ story_of acts))) ≤ most
hand-piece Full o acts conn moment s most hand brings quiet few = omega (arith, ap length (hand ∙ quiet))
hand-piece Disk o acts conn moment s most hand brings quiet few = omega (arith, ap length (hand ∙ quiet))
hand-piece (NotAStore file) o acts conn moment s most hand brings quiet few = omega (arith, ap length (hand ∙ quiet))
hand-piece OutOfMemory o acts conn moment s most hand brings quiet few = omega (arith, ap length (hand ∙ quiet))
hand-piece Done o acts conn moment s most hand brings quiet few = by (is_open conn (story_of acts)) brings
  where
    l : Ledger
    l = ledger o (story_of acts)

    came : in_hand (ledger o (s ∷ story_of acts)) ≡ s.came
    came = hand ∙ in_hand-arrived l.sound o s.refused s.came l ∙ ap (λ h. h ++ s.came) quiet

    by : (b : Bool) → brings_if b conn moment (brought s) (story_of acts) → length (in_hand (ledger o (s ∷ story_of acts))) ≤ most
    by false none = omega (arith, ap length came, length-map s.came (λ (w : Arrival). w.framed), ap length none)
    by true some = omega (arith, ap length came, own-brought conn moment _ some.0 s (story_of acts) some.1, few)

-- ---- one thing after the other

pub Went-over : (going next : Phase) (more : ℕ) (o : Opening) (start : links.State) (first : Begun) (moments : Option (List ℕ)) (acts : List Act) (found : Status)
    (core : View) (disk_now : disk.State) (now : links.State)
    → Went going more o start first acts (Err found) core disk_now now moments → Went next more o start first acts (Err found) core disk_now now moments
Went-over going next more o start first moments acts found core disk_now now went = record {
  after = went.after;
  serving = went.serving;
  phase = went.phase;
  quiet = tt;
  taken = went.taken;
}

pub Went-next : (next : Phase) (n more all : ℕ) (o : Opening) (start : links.State) (first : Begun) (moments : Option (List ℕ)) (acts between : List Act) (result : Result Unit Status)
    (core : View) (disk_now : disk.State) (now : links.State) → taken between ≡ taken acts + n → all ≡ n + more
    → Went next more o start first between result core disk_now now moments → Went next all o start first acts result core disk_now now moments
Went-next next n more all o start first moments acts between result core disk_now now counted sum went = record {
  after = went.after;
  serving = went.serving;
  phase = went.phase;
  quiet = went.quiet;
  taken = omega (arith, went.taken, counted, sum);
}

-- after the step with a piece
pub record Came (o : Opening) (start : links.State) (first : Begun) (acts : List Act) (conn : ℕ) (a : Answer) (e : Event)
    (core : View) (disk_now : disk.State) (now : links.State) (moments : Option (List ℕ)) : Type 0 where
  pub after : List Act
  pub serving : Serving o start first after core disk_now now moments
  pub turn : InTurn conn None o after
  pub phase : phase after ≡ after_taken a e
  pub taken : taken after ≡ taken acts + 1
  pub hand : length (in_hand (ledger o (story_of after))) < 2 ^ 48

pub Came-piece : (conn moment : ℕ) (bytes : List ℕ) (a : Answer) (o : Opening) (start : links.State) (first : Begun) (read moments : Option (List ℕ)) (acts : List Act)
    (old new : View) (disk_old disk_new : disk.State) (before now : links.State)
    → ((story : List Step) → AreMessages story → length (of conn (framed_in story)) ≤ bytes_taken story)
    → new.table.bytes_taken < 2 ^ 48
    → Serving o start first acts old disk_old before read → phase acts ≡ resting → IsQuiet o acts
    → (told : Stepped (Piece conn moment bytes) a old new disk_old disk_new o (story_of acts))
    → Shift (Piece conn moment bytes) a before now → ReadsClock (Piece conn moment bytes) read moments
    → Came o start first acts conn a (Piece conn moment bytes) new disk_new now moments
Came-piece conn moment bytes a o start first read moments acts old new disk_old disk_new before now few most h rests quiet told shift reads =
    let e = Piece conn moment bytes in
    let s = step_of e a new.store disk_new told.came told.refused in
    let serving = Serving-taken e a o start first read moments acts old new disk_old disk_new before now h rests tt told refl shift reads in
    let brings = told.stands.steps.0.brings in
    let within : length (of conn (framed_in (s ∷ story_of acts))) ≤ new.table.bytes_taken =
    omega (arith, few (s ∷ story_of acts) told.stands.steps.0.messages, told.stands.connects.bytes_taken) in
    record {
      after = takes s ∷ acts;
      serving = serving;
      turn = InTurn-piece a o start before acts conn moment bytes s refl refl refl brings quiet h.always;
      phase = refl;
      taken = refl;
      hand = omega (arith, hand-piece a o acts conn moment s new.table.bytes_taken refl brings quiet within, most);
    }

-- a piece for which the server ends
pub Went-came : (found : Status) (conn : ℕ) (a : Answer) (e : Event) (o : Opening) (start : links.State) (first : Begun) (moments : Option (List ℕ)) (acts : List Act)
    (core : View) (disk_now : disk.State) (now : links.State) → Came o start first acts conn a e core disk_now now moments → LeadsTo {T = Unit} to_commit (Err found) (after_taken a e)
    → Went resting 1 o start first acts (Err found) core disk_now now moments
Went-came found conn a e o start first moments acts core disk_now now came leads = record {
  after = came.after;
  serving = came.serving;
  phase = came.phase ∙ leads;
  quiet = tt;
  taken = came.taken;
}
