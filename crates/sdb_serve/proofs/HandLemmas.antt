-- What a core has in hand: a step releases the first of it, and what came goes behind it.
use Rattle.std.proofs.Common.{◌≡◌, ◌+◌, ◌-◌, ℕ, Bool, true, false, not, ◌||◌, ◌==◌, List, [], ◌∷◌, ◌++◌, length, map, take, drop, Option, Some, None, refl, sym, ◌∙◌, ap, subst, append_assoc, append-nil}
use Rattle.std.proofs.Math.Dec.{eqb-suc-zero}
use Rattle.std.proofs.lemmas.Bool.{false≢true, or_parts}
use Rattle.std.proofs.lemmas.List.{map-append, length-map, take-append-drop}
use Rattle.sdb_arrivals.specs.Queues.{Answered, Queues, Sent, in_line}
use Rattle.sdb_arrivals.specs.Story.{Answer, Done, Full, Disk, NotAStore, OutOfMemory, Event, Opened, Piece, Ended, Commit, Work, Arrival, Step}
use Rattle.sdb_pairs.specs.Accounts.{DomainEntries}
use Rattle.sdb_pairs.specs.Changes.{state}
use Rattle.sdb_serve.specs.Stepping.{waits}
use Rattle.sdb_core.specs.Kept.{Agrees}
use Rattle.sdb_core.specs.Ledgers.{Executed, Given, Ledger, Opening, after_all, arrived, as_answered, behind, comes, commits, committed, executed, executes, failed, filled, first_or, free, given_by, held_by, if_sound, in_hand, moves, releases, reopened, reopens, rested, seen, sent_by, unavailable, without, without_memory, works}
use Rattle.sdb_serve.specs.Acts.{waits_in}
use Rattle.sdb_serve.specs.Sending.{AllTo}
use Rattle.sdb_serve.specs.Serving.{AreOf}

-- the arrivals of what was executed, and of what is released
abbrev pub of_held : List Executed → List Arrival
of_held held = map (λ (x : Executed). x.arrival) held

abbrev pub of_given : List Given → List Arrival
of_given given = map (λ (g : Given). g.arrival) given

executed-arrival : (b : Bool) (accounts : DomainEntries) (w : Arrival) → (executed b accounts w).arrival ≡ w
executed-arrival true accounts w = refl
executed-arrival false accounts w = refl

executes-arrivals : (accounts : DomainEntries) (refused : List Bool) (ws : List Arrival) → of_held (executes accounts refused ws) ≡ ws
executes-arrivals accounts refused [] = refl
executes-arrivals accounts refused (w ∷ ws) =
    let x = executed (first_or refused) accounts w in
    ap (λ a. a ∷ of_held (executes (state accounts x.changes) (behind refused) ws)) (executed-arrival (first_or refused) accounts w)
    ∙ ap (λ l. w ∷ l) (executes-arrivals (state accounts x.changes) (behind refused) ws)

pub in_hand-filled : (o : Opening) (refused : List Bool) (l : Ledger) → in_hand (filled o refused l) ≡ in_hand l
in_hand-filled o refused l =
    let n = free l in
    let more = executes (seen o l) refused (take n l.waiting) in
    ap (λ h. h ++ drop n l.waiting) (map-append (λ (x : Executed). x.arrival) l.held more)
    ∙ append_assoc (of_held l.held) (of_held more) (drop n l.waiting)
    ∙ ap (λ m. of_held l.held ++ (m ++ drop n l.waiting)) (executes-arrivals (seen o l) refused (take n l.waiting))
    ∙ ap (λ m. of_held l.held ++ m) (take-append-drop n l.waiting)

pub in_hand-reopens : (b : Bool) (o : Opening) (refused : List Bool) (sequence : ℕ) (l : Ledger) → in_hand (if_sound b (filled o refused (reopened o sequence l)) l) ≡ in_hand l
in_hand-reopens true o refused sequence l = in_hand-filled o refused (reopened o sequence l)
in_hand-reopens false o refused sequence l = refl

pub in_hand-arrived : (b : Bool) (o : Opening) (refused : List Bool) (came : List Arrival) (l : Ledger)
    → in_hand (if_sound b (filled o refused (arrived came l)) (arrived came l)) ≡ in_hand l ++ came
in_hand-arrived true o refused came l = in_hand-filled o refused (arrived came l) ∙ sym (append_assoc (of_held l.held) l.waiting came)
in_hand-arrived false o refused came l = sym (append_assoc (of_held l.held) l.waiting came)

given-arrival : (answer : Option (List ℕ)) (w : Arrival) → (given_by answer w).arrival ≡ w
given-arrival (Some bytes) w = refl
given-arrival None w = refl

answered-arrivals : (held : List Executed) → of_given (map as_answered held) ≡ of_held held
answered-arrivals [] = refl
answered-arrivals (x ∷ held) = ap (λ a. a ∷ of_given (map as_answered held)) (given-arrival x.answer x.arrival) ∙ ap (λ l. x.arrival ∷ l) (answered-arrivals held)

after_all-arrivals : (held : List Executed) → of_given (map after_all held) ≡ of_held held
after_all-arrivals [] = refl
after_all-arrivals (x ∷ held) = ap (λ l. x.arrival ∷ l) (after_all-arrivals held)

unavailable-arrivals : (ws : List Arrival) → of_given (map unavailable ws) ≡ ws
unavailable-arrivals [] = refl
unavailable-arrivals (w ∷ ws) = ap (λ l. w ∷ l) (unavailable-arrivals ws)

without_memory-arrivals : (ws : List Arrival) → of_given (map without_memory ws) ≡ ws
without_memory-arrivals [] = refl
without_memory-arrivals (w ∷ ws) = ap (λ l. w ∷ l) (without_memory-arrivals ws)

-- those that were held are released, and the rest stays in hand
releases_held : (o : Opening) (s : Step) (l rest : Ledger) (given : List Given) → of_given given ≡ of_held l.held → in_hand rest ≡ l.waiting → of_given given ++ in_hand rest ≡ in_hand l
releases_held o s l rest given is stays = ap (λ g. g ++ in_hand rest) is ∙ ap (λ r. of_held l.held ++ r) stays

releases_first : (l : Ledger) (refuse : Arrival → Given) → of_given (map refuse (take 64 l.waiting)) ≡ take 64 l.waiting
    → of_given (map as_answered l.held ++ map refuse (take 64 l.waiting)) ++ drop 64 l.waiting ≡ in_hand l
releases_first l refuse is =
    ap (λ g. g ++ drop 64 l.waiting) (map-append (λ (g : Given). g.arrival) (map as_answered l.held) (map refuse (take 64 l.waiting)))
    ∙ append_assoc (of_given (map as_answered l.held)) (of_given (map refuse (take 64 l.waiting))) (drop 64 l.waiting)
    ∙ ap (λ g. g ++ (of_given (map refuse (take 64 l.waiting)) ++ drop 64 l.waiting)) (answered-arrivals l.held)
    ∙ ap (λ m. of_held l.held ++ (m ++ drop 64 l.waiting)) is
    ∙ ap (λ m. of_held l.held ++ m) (take-append-drop 64 l.waiting)

pub commits-in_hand : (sound : Bool) (a : Answer) (o : Opening) (s : Step) (l : Ledger) → of_given (releases sound a l) ++ in_hand (commits sound a o s l) ≡ in_hand l
commits-in_hand true Done o s l = releases_held o s l (filled o s.refused (committed l)) (map as_answered l.held) (answered-arrivals l.held) (in_hand-filled o s.refused (committed l))
commits-in_hand true Full o s l = releases_held o s l (reopens o s (failed l)) (map after_all l.held) (after_all-arrivals l.held) (in_hand-reopens s.sound o s.refused s.sequence (failed l))
commits-in_hand true Disk o s l = releases_held o s l (reopens o s (failed l)) (map after_all l.held) (after_all-arrivals l.held) (in_hand-reopens s.sound o s.refused s.sequence (failed l))
commits-in_hand true (NotAStore file) o s l = releases_held o s l (reopens o s (failed l)) (map after_all l.held) (after_all-arrivals l.held) (in_hand-reopens s.sound o s.refused s.sequence (failed l))
commits-in_hand true OutOfMemory o s l = releases_held o s l (reopens o s (failed l)) (map after_all l.held) (after_all-arrivals l.held) (in_hand-reopens s.sound o s.refused s.sequence (failed l))
commits-in_hand false Done o s l = releases_held o s l (reopens o s (rested l)) (map as_answered l.held) (answered-arrivals l.held) (in_hand-reopens s.sound o s.refused s.sequence (rested l))
commits-in_hand false Full o s l = releases_held o s l (reopens o s (rested l)) (map as_answered l.held) (answered-arrivals l.held) (in_hand-reopens s.sound o s.refused s.sequence (rested l))
commits-in_hand false Disk o s l = releases_first l unavailable (unavailable-arrivals (take 64 l.waiting))
commits-in_hand false (NotAStore file) o s l = releases_held o s l (reopens o s (rested l)) (map as_answered l.held) (answered-arrivals l.held) (in_hand-reopens s.sound o s.refused s.sequence (rested l))
commits-in_hand false OutOfMemory o s l = releases_first l without_memory (without_memory-arrivals (take 64 l.waiting))

pub works-in_hand : (a : Answer) (l : Ledger) → in_hand (works a l) ≡ in_hand l
works-in_hand Done l = refl
works-in_hand Full l = refl
works-in_hand Disk l = refl
works-in_hand (NotAStore file) l = refl
works-in_hand OutOfMemory l = refl

-- nothing in hand: nothing is held and nothing waits
pub quiet_from : (l : Ledger) → waits_in l ≡ false → in_hand l ≡ []
quiet_from l none = by l.held l.waiting none
  where
    by : (held : List Executed) (waiting : List Arrival) → (not (length held == 0) || not (length waiting == 0)) ≡ false → of_held held ++ waiting ≡ []
    by [] [] e = refl
    by [] (w ∷ waiting) e = absurd (false≢true (sym e ∙ ap not (eqb-suc-zero (length waiting))))
    by (x ∷ held) waiting e = absurd (false≢true (sym (or_parts (not (length (x ∷ held) == 0)) (not (length waiting == 0)) e).0 ∙ ap not (eqb-suc-zero (length held))))

pub waits_from : (l : Ledger) → in_hand l ≡ [] → waits_in l ≡ false
waits_from l none = by l.held l.waiting none
  where
    by : (held : List Executed) (waiting : List Arrival) → of_held held ++ waiting ≡ [] → (not (length held == 0) || not (length waiting == 0)) ≡ false
    by [] [] e = refl
    by [] (w ∷ waiting) e = cc
    by (x ∷ held) waiting e = cc

pub waits-agrees : (k : Queues) (l : Ledger) → k.held ≡ map held_by l.held → k.waiting ≡ map in_line l.waiting → waits k ≡ waits_in l
waits-agrees k l held waiting =
    let h : length k.held ≡ length l.held = ap length held ∙ length-map l.held held_by in
    let w : length k.waiting ≡ length l.waiting = ap length waiting ∙ length-map l.waiting in_line in
    ap (λ n. not (n == 0) || not (length k.waiting == 0)) h ∙ ap (λ n. not (length l.held == 0) || not (n == 0)) w

-- ---- one connection

pub AreOf-front : (c : ℕ) (xs ys : List Arrival) → AreOf c (xs ++ ys) → AreOf c xs
AreOf-front c [] ys all = tt
AreOf-front c (x ∷ xs) ys all = (all.0, AreOf-front c xs ys all.1)

pub AreOf-back : (c : ℕ) (xs ys : List Arrival) → AreOf c (xs ++ ys) → AreOf c ys
AreOf-back c [] ys all = all
AreOf-back c (x ∷ xs) ys all = AreOf-back c xs ys all.1

pub AllTo-given : (c : ℕ) (given : List Given) → AreOf c (of_given given) → AllTo c (map sent_by given)
AllTo-given c [] all = tt
AllTo-given c (g ∷ given) all = (all.0, AllTo-given c given all.1)

pub front-none : {A : Type 0} (xs ys : List A) → xs ++ ys ≡ [] → xs ≡ []
front-none [] ys e = refl
front-none (x ∷ xs) ys e = cc

pub back-none : {A : Type 0} (xs ys : List A) → xs ++ ys ≡ [] → ys ≡ []
back-none [] ys e = e
back-none (x ∷ xs) ys e = cc

pub given-none : (given : List Given) → of_given given ≡ [] → given ≡ []
given-none [] e = refl
given-none (g ∷ given) e = cc
