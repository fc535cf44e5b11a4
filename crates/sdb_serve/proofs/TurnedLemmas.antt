-- A turn, and turn after turn.
use Rattle.std.proofs.Common.{◌≡◌, ◌⊎◌, inl, inr, ℕ, ◌+◌, ◌*◌, ◌^◌, ◌≤◌, ◌<◌, Bool, true, false, List, [], ◌∷◌, ◌++◌, length, Option, None, IsTrue, Result, Ok, Err, refl, sym, ◌∙◌, ap, subst, arith, append-nil}
use Rattle.sdb_core.specs.Kept.{View}
use Rattle.sdb_core.specs.Ledgers.{Opening}
use Rattle.sdb_core.specs.Told.{StandsFor}
use Rattle.sdb_disk.specs.Disk as disk
use Rattle.sdb_io.specs.Links as links
use Rattle.sdb_io.specs.declared.links.LinkEvent.TheVariants as given
use Rattle.sdb_serve.specs.Acts.{Act, Ends, IsDue, Phase, closes, is_lost, lost, over, phase, resting, story_of, taken, waits_in}
use Rattle.sdb_core.specs.Ledgers.{ledger}
use Rattle.std.proofs.lemmas.Bool.{false≢true}
use Rattle.sdb_serve.specs.Coming.{HaveCome}
use Rattle.sdb_serve.specs.Sending.{IsSent, answers, bytes_to}
use Rattle.sdb_serve.specs.Serving.{Begun, Gave, IsQuiet, OfLinks, OnLinks, Served, Serving, Turned, TurnsInto, Went, goes_on}
use Rattle.sdb_serve.proofs.ServingLemmas.{RoseBy-later, told-along}
use Rattle.sdb_status.specs.declared.status.Status.{Status}
use Rattle.sdb_status.specs.declared.status.Status.TheVariants as status
use Rattle.sdb_store.specs.Kept.{Ready}

pub Turned-went : (r : Result Unit Status) (o : Opening) (start : links.State) (first : Begun) (moments : Option (List ℕ)) (acts : List Act)
    (core : View) (disk_now : disk.State) (now : links.State) → Went resting 1 o start first acts r core disk_now now moments
    → Turned o start first acts (goes_on r) core disk_now now moments
Turned-went (Ok value) o start first moments acts core disk_now now went = record {
  after = went.after;
  serving = went.serving;
  into = (went.phase, went.taken);
  quiet = λ is. went.quiet;
  most = omega (arith, went.taken);
}
Turned-went (Err found) o start first moments acts core disk_now now went = record {
  after = went.after;
  serving = went.serving;
  into = inl went.phase;
  quiet = λ is. absurd (no is);
  most = omega (arith, went.taken);
}
  where
    no : goes_on (Err found) ≡ Ok true → ⊥
    no e = cc

-- the links are as before but for their count of faults
OfLinks-later : (o : Opening) (start before now : links.State) (acts : List Act) → now.told ≡ before.told → now.last ≡ before.last → before.faults ≤ now.faults
    → OfLinks start before o acts → OfLinks start now o acts
OfLinks-later o start before now acts told last faults of = record {
  told = told ∙ of.told;
  counted = RoseBy-later (length (lost acts)) start.faults before.faults now.faults of.counted faults;
  last = λ k came. omega (arith, of.last k came, last);
  fresh = of.fresh;
  up = of.up;
}

closed-sure : (file : ℕ) (p : Phase) → p ≡ over status.Done → p ≡ over (status.NotAStore file) → ⊥
closed-sure file p e is = cc

resting-sure : (file : ℕ) (p : Phase) → p ≡ resting → p ≡ over (status.NotAStore file) → ⊥
resting-sure file p e is = cc

failed-no-more : (r : Result Bool Status) → r ≡ Err status.LinkFault → r ≡ Ok true → ⊥
failed-no-more r e is = cc

closed-no-more : (r : Result Bool Status) → r ≡ Ok false → r ≡ Ok true → ⊥
closed-no-more r e is = cc

-- the links failed
pub Turned-failed : (o : Opening) (start : links.State) (first : Begun) (moments : Option (List ℕ)) (acts : List Act)
    (core : View) (disk_now : disk.State) (before now : links.State) → Serving o start first acts core disk_now before moments → phase acts ≡ resting → IsQuiet o acts
    → now.told ≡ before.told → now.last ≡ before.last → before.faults ≤ now.faults → (IsTrue before.told → links.Stays before now)
    → Turned o start first acts (Err status.LinkFault) core disk_now now moments
Turned-failed o start first moments acts core disk_now before now h rests quiet told last faults stays = record {
  after = acts;
  serving = record {
    stands = h.stands;
    out = h.out;
    due = h.due;
    clock = h.clock;
    faults = h.faults;
    sure = h.sure;
    always = OfLinks-later o start before now acts told last faults h.always;
    links = λ known.
        let s = stays (told-along start.told before.told h.always.told known) in
        let on = h.links known in
        record {
          come = let P : List links.Step → Type 0 = λ l. HaveCome acts start.to_come l in subst P (sym s.to_come) on.come;
          sent = λ k. let P : List ℕ → Type 0 = λ b. IsSent (is_lost k acts) (start.sent k) b (bytes_to k (answers o (story_of acts))) in subst P (sym (s.sent k)) (on.sent k);
          stage = λ k. s.stage k ∙ on.stage k;
          port = s.port ∙ on.port;
        };
  };
  into = inr (refl, refl);
  quiet = λ is. absurd (failed-no-more (Err status.LinkFault) refl is);
  most = omega arith;
}

-- nothing comes any more
pub Turned-closed : (o : Opening) (start : links.State) (first : Begun) (moments : Option (List ℕ)) (acts : List Act) (buf : List ℕ)
    (core : View) (disk_now : disk.State) (before now : links.State) → Serving o start first acts core disk_now before moments → phase acts ≡ resting
    → Gave given.Closed buf before now
    → Turned o start first acts (Ok false) core disk_now now moments
Turned-closed o start first moments acts buf core disk_now before now h rests gave = record {
  after = closes ∷ acts;
  serving = record {
    stands = h.stands;
    out = h.out;
    due = (let P : Phase → Type 0 = λ p. IsDue p (waits_in (ledger o (story_of acts))) closes in subst P (sym rests) tt, h.due);
    clock = h.clock;
    faults = h.faults;
    sure = λ file is. closed-sure file (over status.Done) refl is;
    always =
        let of = OfLinks-later o start before now acts gave.told gave.last gave.faults h.always in
        record { told = of.told; counted = of.counted; last = of.last; fresh = of.fresh; up = of.up };
    links = λ known.
        let s = gave.comes (told-along start.told before.told h.always.told known) in
        let on = h.links known in
        record {
          come = (before.to_come, on.come, s.given);
          sent = λ k. let P : List ℕ → Type 0 = λ b. IsSent (is_lost k acts) (start.sent k) b (bytes_to k (answers o (story_of acts))) in subst P (sym (s.sent k)) (on.sent k);
          stage = λ k. s.stage k ∙ on.stage k;
          port = s.port ∙ on.port;
        };
  };
  into = refl;
  quiet = λ is. absurd (closed-no-more (Ok false) refl is);
  most = omega arith;
}

-- ---- turn after turn

pub Serving-first : (o : Opening) (core : View) (disk_now : disk.State) (now : links.State) (moments : Option (List ℕ)) → StandsFor core disk_now o [] → core.line.out ≡ []
    → Serving o now (record { moments = moments; faults = disk_now.faults }) [] core disk_now now moments
Serving-first o core disk_now now moments stands out = record {
  stands = stands;
  out = out;
  due = tt;
  clock = refl;
  faults = omega arith;
  sure = λ file is. resting-sure file resting refl is;
  always = record {
    told = refl;
    counted = omega arith;
    last = λ k came. absurd (false≢true came);
    fresh = λ k none. (refl, refl);
    up = λ k up. refl;
  };
  links = λ known. record {
    come = refl;
    sent = λ k. sym (append-nil (now.sent k));
    stage = λ k. refl;
    port = refl;
  };
}

-- how far a server is
pub record Drives (made : ℕ) (core0 core : View) (disk0 disk_now : disk.State) (links0 now : links.State) (moments0 moments : Option (List ℕ)) : Type 0 where
  pub ready : Ready core.store disk_now
  pub opened : core.table.last_opened ≤ now.last
  pub bytes : core.table.bytes_taken ≤ 65536 * made
  pub told : disk_now.told ≡ disk0.told
  pub time : disk.Elapses disk0 disk_now
  pub later : links0.faults ≤ now.faults
  pub story : IsTrue disk0.told → (o : Opening) → StandsFor core0 disk0 o [] → core0.line.out ≡ []
      → (acts : List Act) × Serving o links0 (record { moments = moments0; faults = disk0.faults }) acts core disk_now now moments × (phase acts ≡ resting) × IsQuiet o acts × (taken acts ≡ made)

pub Ends-done : (o : Opening) (start : links.State) (first : Begun) (moments : Option (List ℕ)) (acts : List Act) (turns : ℕ)
    (core : View) (disk_now : disk.State) (now : links.State) → Serving o start first acts core disk_now now moments → phase acts ≡ resting → taken acts ≡ turns
    → Served status.Done turns o start first core disk_now now moments
Ends-done o start first moments acts turns core disk_now now h rests counted = record { acts = acts; serving = h; ends = inr (rests, counted); most = omega (arith, counted) }

pub Ends-closed : (o : Opening) (start : links.State) (first : Begun) (moments : Option (List ℕ)) (acts : List Act) (turns made : ℕ)
    (core : View) (disk_now : disk.State) (now : links.State) → taken acts ≡ made → made < turns → Turned o start first acts (Ok false) core disk_now now moments
    → Served status.Done turns o start first core disk_now now moments
Ends-closed o start first moments acts turns made core disk_now now counted inside turned =
    record { acts = turned.after; serving = turned.serving; ends = inl turned.into; most = omega (arith, turned.most, counted, inside) }

pub Ends-err : (found : Status) (o : Opening) (start : links.State) (first : Begun) (moments : Option (List ℕ)) (acts : List Act) (turns made : ℕ)
    (core : View) (disk_now : disk.State) (now : links.State) → phase acts ≡ resting → taken acts ≡ made → made < turns → Turned o start first acts (Err found) core disk_now now moments
    → Served found turns o start first core disk_now now moments
Ends-err found o start first moments acts turns made core disk_now now rests counted inside turned =
    record { acts = turned.after; serving = turned.serving; ends = by turned.into; most = omega (arith, turned.most, counted, inside) }
  where
    by : (phase turned.after ≡ over found) ⊎ ((found ≡ status.LinkFault) × (turned.after ≡ acts)) → Ends found turns turned.after
    by (inl is) = inl is
    by (inr (is, same)) =
        let P : Status → Type 0 = λ s. Ends s turns turned.after in
        subst P (sym is) (inr (ap phase same ∙ rests, omega (arith, ap taken same, counted, inside)))

pub Ends-empty : (turns : ℕ) (o : Opening) (core : View) (disk_now : disk.State) (now : links.State) (moments : Option (List ℕ)) → StandsFor core disk_now o [] → core.line.out ≡ []
    → Served status.OutOfMemory turns o now (record { moments = moments; faults = disk_now.faults }) core disk_now now moments
Ends-empty turns o core disk_now now moments stands out =
    record { acts = []; serving = Serving-first o core disk_now now moments stands out; ends = inr refl; most = omega arith }

-- a turn whose answer is known
pub Turned-at : (known b : Bool) (o : Opening) (start : links.State) (first : Begun) (moments : Option (List ℕ)) (acts : List Act)
    (core : View) (disk_now : disk.State) (now : links.State) → b ≡ known → Turned o start first acts (Ok b) core disk_now now moments → Turned o start first acts (Ok known) core disk_now now moments
Turned-at known b o start first moments acts core disk_now now is turned =
    let P : Bool → Type 0 = λ v. Turned o start first acts (Ok v) core disk_now now moments in subst P is turned

pub Served-sure : (file turns : ℕ) (o : Opening) (start : links.State) (first : Begun) (core : View) (disk_now : disk.State) (now : links.State) (moments : Option (List ℕ))
    → Served (status.NotAStore file) turns o start first core disk_now now moments → ⊥
Served-sure file turns o start first core disk_now now moments served = by served.ends
  where
    by : Ends (status.NotAStore file) turns served.acts → ⊥
    by (inl is) = served.serving.sure file is
    by (inr none) = none
