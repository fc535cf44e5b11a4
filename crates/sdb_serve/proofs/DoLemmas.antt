-- A Commit on a core that has something in hand leaves less to do.
use Rattle.std.proofs.Common.{◌≡◌, ◌≢◌, ◌⊎◌, inl, inr, ◌+◌, ◌-◌, ◌*◌, ◌<◌, ◌≤◌, ◌^◌, ℕ, Bool, true, false, not, ◌||◌, ◌==◌, List, [], ◌∷◌, ◌++◌, length, map, take, drop, refl, sym, ◌∙◌, ap, subst, arith, length-append}
use Rattle.std.proofs.lemmas.Bool.{false≢true}
use Rattle.std.proofs.lemmas.List.{length-map, length-drop}
use Rattle.sdb_arrivals.specs.Story.{Answer, Done, Full, Disk, NotAStore, OutOfMemory, Event, Opened, Piece, Ended, Commit, Work, Arrival, Framed, Step}
use Rattle.sdb_arrivals.specs.Tables.{Connections, Turns, OpensAs, TakesAs}
use Rattle.sdb_core.specs.Ledgers.{Executed, Ledger, Opening, commits, committed, executes, failed, filled, free, if_sound, in_hand, reopened, reopens, rested, seen, without}
use Rattle.sdb_serve.specs.Acts.{waits_in}
use Rattle.sdb_serve.specs.Stepping.{Counts, rank, to_do}
use Rattle.sdb_serve.proofs.HandLemmas.{in_hand-filled, in_hand-reopens, of_held}

in_hand-length : (l : Ledger) → length (in_hand l) ≡ length l.held + length l.waiting
in_hand-length l = length-append (of_held l.held) l.waiting ∙ ap (λ n. n + length l.waiting) (length-map l.held (λ (x : Executed). x.arrival))

pub rank-most : (held : List Executed) (sound : Bool) → rank held sound ≤ 2
rank-most [] true = omega arith
rank-most [] false = omega arith
rank-most (x ∷ held) sound = omega arith

-- where nothing was held, and something waits, filling holds something
filled-rank : (o : Opening) (refused : List Bool) (l : Ledger) (sound : Bool) (w : Arrival) (ws : List Arrival) → l.held ≡ [] → l.waiting ≡ w ∷ ws
    → rank (filled o refused l).held sound ≡ 0
filled-rank o refused l sound w ws none some =
    let P : List Executed → Type 0 = λ held. rank (held ++ executes (seen o l) refused (take (64 - length held) l.waiting)) sound ≡ 0 in
    let Q : List Arrival → Type 0 = λ waiting. rank (executes (seen o l) refused (take 64 waiting)) sound ≡ 0 in
    subst P (sym none) (subst Q (sym some) refl)

-- what is left of a ledger that had something in hand: what waited, or less
less-held : (h w rest after : ℕ) → 0 < h → rest ≤ w → after ≤ 2 → 3 * rest + after < 3 * (h + w) + 0
less-held h w rest after some fewer small = omega arith

-- a ledger after a commit
record After (l now : Ledger) : Type 0 where
  -- at most what waited is left
  fewer : length (in_hand now) ≤ length l.waiting
  -- and where nothing was held, it goes on
  goes : l.held ≡ [] → (w : Arrival) (ws : List Arrival) → l.waiting ≡ w ∷ ws → 3 * length (in_hand now) + rank now.held now.sound < 3 * length l.waiting + rank [] l.sound

falls : (l now : Ledger) → waits_in l ≡ true → After l now → to_do now < to_do l
falls l now waits after = by l.held l.waiting refl refl waits
  where
    by : (held : List Executed) (waiting : List Arrival) → l.held ≡ held → l.waiting ≡ waiting → (not (length held == 0) || not (length waiting == 0)) ≡ true → to_do now < to_do l
    by [] [] h w some = absurd (false≢true some)
    by [] (x ∷ xs) h w some =
        let R : List Executed → Type 0 = λ held. 3 * length (in_hand now) + rank now.held now.sound < 3 * length (in_hand l) + rank held l.sound in
        subst R (sym h) (omega (arith, after.goes h x xs w, in_hand-length l, ap length h))
    by (x ∷ held) waiting h w some =
        let R : List Executed → Type 0 = λ held. 3 * length (in_hand now) + rank now.held now.sound < 3 * length (in_hand l) + rank held l.sound in
        subst R (sym h) (omega (arith, after.fewer, rank-most now.held now.sound, in_hand-length l, ap length h))

pub commits-falls : (sound : Bool) (a : Answer) (o : Opening) (s : Step) (l : Ledger) → l.sound ≡ sound → waits_in l ≡ true
    → (s.sound ≡ false → a ≡ Done → ⊥) → (a ≡ Full → ⊥) → ((file : ℕ) → a ≡ NotAStore file → ⊥) → to_do (commits sound a o s l) < to_do l
commits-falls sound a o s l is waits lost full store = falls l (commits sound a o s l) waits (by sound a is lost full store)
  where
    filled-after : (mid : Ledger) → mid.held ≡ [] → mid.waiting ≡ l.waiting → mid.sound ≡ true → 1 ≤ rank [] l.sound → After l (filled o s.refused mid)
    filled-after mid none same sound rank_some = record {
      fewer = omega (arith, ap length (in_hand-filled o s.refused mid), in_hand-length mid, ap length none, ap length same);
      goes = λ h w ws some. omega (arith, ap length (in_hand-filled o s.refused mid), in_hand-length mid, ap length none, ap length same, filled-rank o s.refused mid mid.sound w ws none (same ∙ some), rank_some);
    }

    rest-after : (mid : Ledger) → mid.held ≡ [] → length (in_hand mid) ≤ length l.waiting
        → ((w : Arrival) (ws : List Arrival) → l.waiting ≡ w ∷ ws → 3 * length (in_hand mid) + rank [] mid.sound < 3 * length l.waiting + rank [] l.sound) → After l mid
    rest-after mid none fewer less = record {
      fewer = fewer;
      goes = λ h w ws some. let R : List Executed → Type 0 = λ held. 3 * length (in_hand mid) + rank held mid.sound < 3 * length l.waiting + rank [] l.sound in
          subst R (sym none) (less w ws some);
    }

    ranked : (b : Bool) → l.sound ≡ b → rank [] l.sound ≡ rank [] b
    ranked b e = ap (λ v. rank [] v) e

    some-rank : (b : Bool) → 1 ≤ rank [] b
    some-rank true = omega arith
    some-rank false = omega arith

    reopens-sound : (b : Bool) → l.sound ≡ true → After l (if_sound b (filled o s.refused (reopened o s.sequence (failed l))) (failed l))
    reopens-sound true e = filled-after (reopened o s.sequence (failed l)) refl refl refl (some-rank l.sound)
    reopens-sound false e = rest-after (failed l) refl (omega arith) (λ w ws some. omega (arith, ranked true e))

    reopens-rested : (b : Bool) → b ≡ true → After l (if_sound b (filled o s.refused (reopened o s.sequence (rested l))) (rested l))
    reopens-rested true e = filled-after (reopened o s.sequence (rested l)) refl refl refl (some-rank l.sound)
    reopens-rested false e = absurd (false≢true e)

    without-after : l.sound ≡ false → After l (without 64 (rested l))
    without-after e = rest-after (without 64 (rested l)) refl (omega (arith, length-drop 64 l.waiting)) (λ w ws some. omega (arith, length-drop 64 l.waiting, ap length some))

    true-from : (b : Bool) → (b ≡ false → ⊥) → b ≡ true
    true-from true h = refl
    true-from false h = absurd (h refl)

    by : (sound : Bool) (a : Answer) → l.sound ≡ sound → (s.sound ≡ false → a ≡ Done → ⊥) → (a ≡ Full → ⊥) → ((file : ℕ) → a ≡ NotAStore file → ⊥) → After l (commits sound a o s l)
    by true Done is lost full store = filled-after (committed l) refl refl is (some-rank l.sound)
    by true Full is lost full store = absurd (full refl)
    by true Disk is lost full store = reopens-sound s.sound is
    by true (NotAStore file) is lost full store = absurd (store file refl)
    by true OutOfMemory is lost full store = reopens-sound s.sound is
    by false Done is lost full store = reopens-rested s.sound (true-from s.sound (λ e. lost e refl))
    by false Full is lost full store = absurd (full refl)
    by false Disk is lost full store = without-after is
    by false (NotAStore file) is lost full store = absurd (store file refl)
    by false OutOfMemory is lost full store = without-after is

-- ---- numbers

opens-counts : (a : Answer) (c released : ℕ) (old new : Connections) → OpensAs a c released old new → Counts (Opened c) old new
opens-counts Done c released old new h = record { last = ap (λ (t : Connections). t.last_opened) h.1; taken = omega (arith, ap (λ (t : Connections). t.bytes_taken) h.1) }
opens-counts Full c released old new h = record { last = ap (λ (t : Connections). t.last_opened) h.1; taken = omega (arith, ap (λ (t : Connections). t.bytes_taken) h.1) }
opens-counts Disk c released old new h = absurd h
opens-counts (NotAStore file) c released old new h = absurd h
opens-counts OutOfMemory c released old new h = absurd h

same-counts : (e : Event) (old new : Connections) → (Rattle.sdb_serve.specs.Stepping.opened_with e old.last_opened ≡ old.last_opened) → new ≡ old → Counts e old new
same-counts e old new same is = record { last = ap (λ (t : Connections). t.last_opened) is ∙ sym same; taken = omega (arith, ap (λ (t : Connections). t.bytes_taken) is) }

takes-counts : (a : Answer) (c moment : ℕ) (bytes : List ℕ) (came : List Framed) (old new : Connections) → TakesAs a c moment bytes came old new → Counts (Piece c moment bytes) old new
takes-counts Done c moment bytes came old new (inl h) = record { last = h.last_opened; taken = omega (arith, h.bytes_taken) }
takes-counts Done c moment bytes came old new (inr h) = same-counts (Piece c moment bytes) old new refl h.1.1
takes-counts OutOfMemory c moment bytes came old new h = same-counts (Piece c moment bytes) old new refl h.1
takes-counts Full c moment bytes came old new h = absurd h
takes-counts Disk c moment bytes came old new h = absurd h
takes-counts (NotAStore file) c moment bytes came old new h = absurd h

pub turns-counts : (e : Event) (a : Answer) (released : ℕ) (came : List Framed) (old new : Connections) → Turns e a released came old new → Counts e old new
turns-counts (Opened c) a released came old new h = opens-counts a c released old new h.2
turns-counts (Piece c moment bytes) a released came old new h = takes-counts a c moment bytes came old new h
turns-counts (Ended c) a released came old new h = by h.1
  where
    by : (Rattle.sdb_arrivals.specs.Tables.Closed c old new) ⊎ ((Rattle.sdb_arrivals.specs.Tables.open_in c old.entries ≡ false) × (new ≡ old)) → Counts (Ended c) old new
    by (inl x) = record { last = ap (λ (t : Connections). t.last_opened) x.now; taken = omega (arith, ap (λ (t : Connections). t.bytes_taken) x.now) }
    by (inr x) = same-counts (Ended c) old new refl x.1
turns-counts Commit a released came old new h = same-counts Commit old new refl h.1
turns-counts Work a released came old new h = same-counts Work old new refl h.1
