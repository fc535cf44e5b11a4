-- What is released, held and waits, is all that came, in order.
use Rattle.std.proofs.Common.{◌≡◌, ◌⊎◌, inl, inr, ⊎_elim, ℕ, ◌+◌, ◌<◌, ◌≤◌, min, zero, suc, Bool, true, false, List, [], ◌∷◌, ◌++◌, length, map, take, drop, Option, None, Some, refl, sym, ap, ◌∙◌, subst, append-nil, append_assoc, length-append, arith}
use Rattle.std.proofs.lemmas.List.{length-map, length-take, map-append, take-append-drop}
use Rattle.sdb_arrivals.specs.Framing.{Brings, brings_by}
use Rattle.sdb_arrivals.specs.Story.{Answer, Done, Full, Disk, NotAStore, OutOfMemory, Event, Opened, Piece, Ended, Commit, Work, Arrival, Step, brought, came_in, framed_in}
use Rattle.sdb_pairs.specs.Accounts.{DomainEntries}
use Rattle.sdb_pairs.specs.Changes.{state}
use Rattle.sdb_tables.specs.declared.refusal.Refusal.{Refusal}
use Rattle.sdb_tables.specs.declared.refusal.Refusal.TheVariants as refusal
use Rattle.sdb_core.specs.Ledgers.{Executed, Given, Ledger, Mark, NoMemory, Opening, Plain, Unavailable, after_all, arrived, changes_in, as_answered, comes, commits, committed, count_released, executed, executes, failed, filled, first_or, behind, free, given_by, gives, if_sound, in_hand, ledger, moves, refused_given, released, releases, reopened, reopens, rested, seen, with_group, without, works}
use Rattle.sdb_core.specs.Laws.{MadeDurable, PlainIsDurable}
use Rattle.sdb_core.specs.Told.{AreSteps, Marked}
use Rattle.sdb_core.proofs.FillLemmas.{no_both}

-- the arrivals of answers that were released
abbrev pub arrivals_of : List Given → List Arrival
arrivals_of gs = map (λ (g : Given). g.arrival) gs

abbrev pub arrivals_in : List Executed → List Arrival
arrivals_in xs = map (λ (x : Executed). x.arrival) xs

-- ---- executing

executed_arrival : (refused : Bool) (accounts : DomainEntries) (w : Arrival) → (executed refused accounts w).arrival ≡ w
executed_arrival true accounts w = refl
executed_arrival false accounts w = refl

executes_all : (accounts : DomainEntries) (refused : List Bool) (ws : List Arrival) → arrivals_in (executes accounts refused ws) ≡ ws
executes_all accounts refused [] = refl
executes_all accounts refused (w ∷ ws) =
    ap (λ (v : Arrival). v ∷ arrivals_in (executes (state accounts (executed (first_or refused) accounts w).changes) (behind refused) ws)) (executed_arrival (first_or refused) accounts w)
    ∙ ap (λ (vs : List Arrival). w ∷ vs) (executes_all (state accounts (executed (first_or refused) accounts w).changes) (behind refused) ws)

pub hand_filled : (o : Opening) (refused : List Bool) (l : Ledger) → in_hand (filled o refused l) ≡ in_hand l
hand_filled o refused l =
    let xs : List Executed = executes (seen o l) refused (take (free l) l.waiting) in
    ap (λ (ws : List Arrival). ws ++ drop (free l) l.waiting) (map-append (λ (x : Executed). x.arrival) l.held xs)
    ∙ (append_assoc (arrivals_in l.held) (arrivals_in xs) (drop (free l) l.waiting)
    ∙ ap (λ (ws : List Arrival). arrivals_in l.held ++ ws)
    (ap (λ (ws : List Arrival). ws ++ drop (free l) l.waiting) (executes_all (seen o l) refused (take (free l) l.waiting)) ∙ take-append-drop (free l) l.waiting))

-- ---- what a commit releases

given_arrival : (answer : Option (List ℕ)) (w : Arrival) → (given_by answer w).arrival ≡ w
given_arrival None w = refl
given_arrival (Some bytes) w = refl

answered_all : (held : List Executed) → arrivals_of (map as_answered held) ≡ arrivals_in held
answered_all [] = refl
answered_all (x ∷ held) =
    ap (λ (w : Arrival). w ∷ arrivals_of (map as_answered held)) (given_arrival x.answer x.arrival)
    ∙ ap (λ (ws : List Arrival). x.arrival ∷ ws) (answered_all held)

refused_held : (held : List Executed) → arrivals_of (map after_all held) ≡ arrivals_in held
refused_held [] = refl
refused_held (x ∷ held) = ap (λ (ws : List Arrival). x.arrival ∷ ws) (refused_held held)

refused_all : (mark : Mark) (why : Refusal) (ws : List Arrival) → arrivals_of (map (refused_given mark why) ws) ≡ ws
refused_all mark why [] = refl
refused_all mark why (w ∷ ws) = ap (λ (vs : List Arrival). w ∷ vs) (refused_all mark why ws)

hand_reopens : (o : Opening) (s : Step) (l : Ledger) (sound : Bool) → in_hand (if_sound sound (filled o s.refused (reopened o s.sequence l)) l) ≡ in_hand l
hand_reopens o s l true = hand_filled o s.refused (reopened o s.sequence l)
hand_reopens o s l false = refl

-- what was held is released, and the rest goes on to wait
both : (gs : List Given) (held : List Executed) (l k : Ledger) → arrivals_of gs ≡ arrivals_in held → in_hand k ≡ l.waiting → arrivals_of gs ++ in_hand k ≡ arrivals_in held ++ l.waiting
both gs held l k first rest = ap (λ (ws : List Arrival). ws ++ in_hand k) first ∙ ap (λ (ws : List Arrival). arrivals_in held ++ ws) rest

refused_both : (mark : Mark) (why : Refusal) (l : Ledger)
    → arrivals_of (map as_answered l.held ++ map (refused_given mark why) (take 64 l.waiting)) ++ drop 64 l.waiting ≡ in_hand l
refused_both mark why l =
    ap (λ (ws : List Arrival). ws ++ drop 64 l.waiting)
    (map-append (λ (g : Given). g.arrival) (map as_answered l.held) (map (refused_given mark why) (take 64 l.waiting))
    ∙ (ap (λ (ws : List Arrival). ws ++ arrivals_of (map (refused_given mark why) (take 64 l.waiting))) (answered_all l.held)
    ∙ ap (λ (ws : List Arrival). arrivals_in l.held ++ ws) (refused_all mark why (take 64 l.waiting))))
    ∙ (append_assoc (arrivals_in l.held) (take 64 l.waiting) (drop 64 l.waiting)
    ∙ ap (λ (ws : List Arrival). arrivals_in l.held ++ ws) (take-append-drop 64 l.waiting))

commit_hand : (sound : Bool) (a : Answer) (o : Opening) (s : Step) (l : Ledger) → arrivals_of (releases sound a l) ++ in_hand (commits sound a o s l) ≡ in_hand l
commit_hand true Done o s l = both (map as_answered l.held) l.held l (filled o s.refused (committed l)) (answered_all l.held) (hand_filled o s.refused (committed l))
commit_hand true Full o s l = both (map after_all l.held) l.held l (reopens o s (failed l)) (refused_held l.held) (hand_reopens o s (failed l) s.sound)
commit_hand true Disk o s l = both (map after_all l.held) l.held l (reopens o s (failed l)) (refused_held l.held) (hand_reopens o s (failed l) s.sound)
commit_hand true (NotAStore file) o s l = both (map after_all l.held) l.held l (reopens o s (failed l)) (refused_held l.held) (hand_reopens o s (failed l) s.sound)
commit_hand true OutOfMemory o s l = both (map after_all l.held) l.held l (reopens o s (failed l)) (refused_held l.held) (hand_reopens o s (failed l) s.sound)
commit_hand false Done o s l = both (map as_answered l.held) l.held l (reopens o s (rested l)) (answered_all l.held) (hand_reopens o s (rested l) s.sound)
commit_hand false Full o s l = both (map as_answered l.held) l.held l (reopens o s (rested l)) (answered_all l.held) (hand_reopens o s (rested l) s.sound)
commit_hand false (NotAStore file) o s l = both (map as_answered l.held) l.held l (reopens o s (rested l)) (answered_all l.held) (hand_reopens o s (rested l) s.sound)
commit_hand false Disk o s l = refused_both Unavailable refusal.ServiceUnavailable l
commit_hand false OutOfMemory o s l = refused_both NoMemory refusal.OutOfMemory l

-- ---- any step

none_more : (l k : Ledger) (came : List Arrival) → came ≡ [] → in_hand k ≡ in_hand l → in_hand k ≡ in_hand l ++ came
none_more l k came none same = same ∙ (sym (append-nil (in_hand l)) ∙ ap (λ (ws : List Arrival). in_hand l ++ ws) (sym none))

works_hand : (a : Answer) (l : Ledger) → in_hand (works a l) ≡ in_hand l
works_hand Done l = refl
works_hand Full l = refl
works_hand Disk l = refl
works_hand (NotAStore file) l = refl
works_hand OutOfMemory l = refl

arrived_hand : (came : List Arrival) (l : Ledger) → in_hand (arrived came l) ≡ in_hand l ++ came
arrived_hand came l = sym (append_assoc (arrivals_in l.held) l.waiting came)

comes_done : (sound : Bool) (o : Opening) (s : Step) (l : Ledger) → in_hand (if_sound sound (filled o s.refused (arrived s.came l)) (arrived s.came l)) ≡ in_hand l ++ s.came
comes_done true o s l = hand_filled o s.refused (arrived s.came l) ∙ arrived_hand s.came l
comes_done false o s l = arrived_hand s.came l

map_none : (ws : List Arrival) → map (λ (w : Arrival). w.framed) ws ≡ [] → ws ≡ []
map_none [] is = refl
map_none (w ∷ ws) is = absurd cc

none_came : (s : Step) → brought s ≡ [] → s.came ≡ []
none_came s none = map_none s.came none

comes_hand : (a : Answer) (conn moment : ℕ) (o : Opening) (s : Step) (l : Ledger) (story : List Step) → brings_by a conn moment (brought s) story → in_hand (comes a o s l) ≡ in_hand l ++ s.came
comes_hand Done conn moment o s l story brings = comes_done l.sound o s l
comes_hand Full conn moment o s l story brings = none_more l l s.came (none_came s brings) refl
comes_hand Disk conn moment o s l story brings = none_more l l s.came (none_came s brings) refl
comes_hand (NotAStore file) conn moment o s l story brings = none_more l l s.came (none_came s brings) refl
comes_hand OutOfMemory conn moment o s l story brings = none_more l l s.came (none_came s brings) refl

step_hand : (e : Event) (o : Opening) (s : Step) (l : Ledger) (story : List Step) → Brings e s.answer (brought s) story
    → arrivals_of (gives e s.answer l) ++ in_hand (moves e o s l) ≡ in_hand l ++ s.came
step_hand (Opened conn) o s l story brings = none_more l l s.came (none_came s brings) refl
step_hand (Piece conn moment bytes) o s l story brings = comes_hand s.answer conn moment o s l story brings
step_hand (Ended conn) o s l story brings = none_more l l s.came (none_came s brings) refl
step_hand Commit o s l story brings =
    commit_hand l.sound s.answer o s l ∙ (sym (append-nil (in_hand l)) ∙ ap (λ (ws : List Arrival). in_hand l ++ ws) (sym (none_came s brings)))
step_hand Work o s l story brings = none_more l (works s.answer l) s.came (none_came s brings) (works_hand s.answer l)

-- ---- a story

pub all_in_order : (o : Opening) (story : List Step) → AreSteps o story → arrivals_of (released o story) ++ in_hand (ledger o story) ≡ came_in story
all_in_order o [] steps = refl
all_in_order o (s ∷ story) steps =
    let l : Ledger = ledger o story in
    let gs : List Given = gives s.event s.answer l in
    ap (λ (ws : List Arrival). ws ++ in_hand (moves s.event o s l)) (map-append (λ (g : Given). g.arrival) (released o story) gs)
    ∙ (append_assoc (arrivals_of (released o story)) (arrivals_of gs) (in_hand (moves s.event o s l))
    ∙ (ap (λ (ws : List Arrival). arrivals_of (released o story) ++ ws) (step_hand s.event o s l story steps.0.brings)
    ∙ (sym (append_assoc (arrivals_of (released o story)) (in_hand l) s.came)
    ∙ ap (λ (ws : List Arrival). ws ++ s.came) (all_in_order o story steps.1))))

length-framed : (story : List Step) → length (framed_in story) ≡ length (came_in story)
length-framed [] = refl
length-framed (s ∷ story) =
    omega (arith, length-framed story, length-append (framed_in story) (brought s), length-append (came_in story) s.came, length-map s.came (λ (w : Arrival). w.framed))

-- how many are released, held and wait
pub count_in_order : (o : Opening) (story : List Step) → AreSteps o story
    → length (framed_in story) ≡ count_released o story + (length (ledger o story).held + length (ledger o story).waiting)
count_in_order o story steps =
    omega (
      arith,
      length-framed story,
      ap length (all_in_order o story steps),
      length-append (arrivals_of (released o story)) (in_hand (ledger o story)),
      length-append (arrivals_in (ledger o story).held) (ledger o story).waiting,
      length-map (released o story) (λ (g : Given). g.arrival),
      length-map (ledger o story).held (λ (x : Executed). x.arrival),
    )

pub released_more : (o : Opening) (s : Step) (story : List Step) → count_released o story ≤ count_released o (s ∷ story)
released_more o s story = omega (arith, length-append (released o story) (gives s.event s.answer (ledger o story)))

-- ---- how many are held

length-executes : (accounts : DomainEntries) (refused : List Bool) (ws : List Arrival) → length (executes accounts refused ws) ≡ length ws
length-executes accounts refused ws = sym (length-map (executes accounts refused ws) (λ (x : Executed). x.arrival)) ∙ ap length (executes_all accounts refused ws)

length-taken : (n : ℕ) (ws : List Arrival) → length (take n ws) ≡ min n (length ws)
length-taken n ws = grind (arith, length-take)

pub lesser_is_held : (o : Opening) (refused : List Bool) (l : Ledger) → length l.held ≤ 64 → length (filled o refused l).held ≡ min (length (in_hand l)) 64
lesser_is_held o refused l few =
    omega (
      arith,
      few,
      length-append l.held (executes (seen o l) refused (take (free l) l.waiting)),
      length-executes (seen o l) refused (take (free l) l.waiting),
      length-taken (free l) l.waiting,
      length-append (arrivals_in l.held) l.waiting,
      length-map l.held (λ (x : Executed). x.arrival),
    )

-- at most 64 are held, and none waits while there is room on a sound store
pub record IsFull (l : Ledger) : Type 0 where
  pub few : length l.held ≤ 64
  pub none : l.sound ≡ true → length l.held < 64 → l.waiting ≡ []

drop_all_of : (n : ℕ) (ws : List Arrival) → length ws ≤ n → drop n ws ≡ []
drop_all_of zero [] le = refl
drop_all_of zero (w ∷ ws) le = absurd (omega (arith, le))
drop_all_of (suc n) [] le = refl
drop_all_of (suc n) (w ∷ ws) le = drop_all_of n ws (omega (arith, le))

is_full_filled : (o : Opening) (refused : List Bool) (l : Ledger) → length l.held ≤ 64 → IsFull (filled o refused l)
is_full_filled o refused l few =
    let held = lesser_is_held o refused l few in
    let hand : length (in_hand l) ≡ length l.held + length l.waiting = omega (arith, length-append (arrivals_in l.held) l.waiting, length-map l.held (λ (x : Executed). x.arrival)) in
    record {
      few = omega (arith, held);
      none = λ sound less. drop_all_of (free l) l.waiting (omega (arith, held, hand, less, few));
    }

is_full_lost : (l : Ledger) → l.sound ≡ false → length l.held ≤ 64 → IsFull l
is_full_lost l lost few = record { few = few; none = λ sound less. absurd (no_both sound lost) }

-- no answer is held after any commit before requests are executed
no_few : 0 ≤ 64
no_few = omega arith

is_full_reopens : (o : Opening) (s : Step) (l : Ledger) (sound : Bool) → l.sound ≡ false → length l.held ≤ 64 → IsFull (if_sound sound (filled o s.refused (reopened o s.sequence l)) l)
is_full_reopens o s l true lost few = is_full_filled o s.refused (reopened o s.sequence l) few
is_full_reopens o s l false lost few = is_full_lost l lost few

is_full_commit : (sound : Bool) (a : Answer) (o : Opening) (s : Step) (l : Ledger) → l.sound ≡ sound → IsFull l → IsFull (commits sound a o s l)
is_full_commit true Done o s l is f = is_full_filled o s.refused (committed l) no_few
is_full_commit true Full o s l is f = is_full_reopens o s (failed l) s.sound refl no_few
is_full_commit true Disk o s l is f = is_full_reopens o s (failed l) s.sound refl no_few
is_full_commit true (NotAStore file) o s l is f = is_full_reopens o s (failed l) s.sound refl no_few
is_full_commit true OutOfMemory o s l is f = is_full_reopens o s (failed l) s.sound refl no_few
is_full_commit false Done o s l is f = is_full_reopens o s (rested l) s.sound is no_few
is_full_commit false Full o s l is f = is_full_reopens o s (rested l) s.sound is no_few
is_full_commit false Disk o s l is f = is_full_lost (without 64 (rested l)) is no_few
is_full_commit false (NotAStore file) o s l is f = is_full_reopens o s (rested l) s.sound is no_few
is_full_commit false OutOfMemory o s l is f = is_full_lost (without 64 (rested l)) is no_few

is_full_comes : (sound : Bool) (o : Opening) (s : Step) (l : Ledger) → l.sound ≡ sound → IsFull l → IsFull (if_sound sound (filled o s.refused (arrived s.came l)) (arrived s.came l))
is_full_comes true o s l is f = is_full_filled o s.refused (arrived s.came l) f.few
is_full_comes false o s l is f = is_full_lost (arrived s.came l) is f.few

is_full_piece : (a : Answer) (o : Opening) (s : Step) (l : Ledger) → IsFull l → IsFull (comes a o s l)
is_full_piece Done o s l f = is_full_comes l.sound o s l refl f
is_full_piece Full o s l f = f
is_full_piece Disk o s l f = f
is_full_piece (NotAStore file) o s l f = f
is_full_piece OutOfMemory o s l f = f

is_full_work : (a : Answer) (l : Ledger) → IsFull l → IsFull (works a l)
is_full_work Done l f = f
is_full_work Full l f = f
is_full_work Disk l f = is_full_lost (works Disk l) refl f.few
is_full_work (NotAStore file) l f = f
is_full_work OutOfMemory l f = f

is_full_step : (e : Event) (o : Opening) (s : Step) (l : Ledger) → IsFull l → IsFull (moves e o s l)
is_full_step (Opened conn) o s l f = f
is_full_step (Piece conn moment bytes) o s l f = is_full_piece s.answer o s l f
is_full_step (Ended conn) o s l f = f
is_full_step Commit o s l f = is_full_commit l.sound s.answer o s l refl f
is_full_step Work o s l f = is_full_work s.answer l f

pub is_full_after : (o : Opening) (story : List Step) → IsFull (ledger o story)
is_full_after o [] = record { few = no_few; none = λ sound less. refl }
is_full_after o (s ∷ story) = is_full_step s.event o s (ledger o story) (is_full_after o story)

-- ---- plain answers

after_all_plain : (held : List Executed) → Marked Plain (map after_all held) → ⊥
after_all_plain [] m = m
after_all_plain (x ∷ held) (inl is) = cc
after_all_plain (x ∷ held) (inr m) = after_all_plain held m

plain_commit : (sound : Bool) (a : Answer) (o : Opening) (s : Step) (l : Ledger) → l.sound ≡ sound → (l.sound ≡ false → changes_in l.held ≡ []) → Marked Plain (releases sound a l)
    → ((a ≡ Done) × ((commits sound a o s l).groups ≡ with_group (changes_in l.held) l.groups)) ⊎ (changes_in l.held ≡ [])
plain_commit true Done o s l is rests m = inl (refl, refl)
plain_commit true Full o s l is rests m = absurd (after_all_plain l.held m)
plain_commit true Disk o s l is rests m = absurd (after_all_plain l.held m)
plain_commit true (NotAStore file) o s l is rests m = absurd (after_all_plain l.held m)
plain_commit true OutOfMemory o s l is rests m = absurd (after_all_plain l.held m)
plain_commit false a o s l is rests m = inr (rests is)

plain_step : (e : Event) (o : Opening) (s : Step) (l : Ledger) → s.event ≡ e → (l.sound ≡ false → changes_in l.held ≡ []) → Marked Plain (gives e s.answer l)
    → MadeDurable o s l ⊎ ((s.event ≡ Commit) × (changes_in l.held ≡ []))
plain_step (Opened conn) o s l is rests m = absurd m
plain_step (Piece conn moment bytes) o s l is rests m = absurd m
plain_step (Ended conn) o s l is rests m = absurd m
plain_step Commit o s l is rests m =
    ⊎_elim
    (λ (d : (s.answer ≡ Done) × ((commits l.sound s.answer o s l).groups ≡ with_group (changes_in l.held) l.groups)).
    inl (record { commit = is; done = d.0; groups = subst (λ (e : Event). (moves e o s l).groups ≡ with_group (changes_in l.held) l.groups) (sym is) d.1 }))
    (λ none. inr (is, none))
    (plain_commit l.sound s.answer o s l refl rests m)
plain_step Work o s l is rests m = absurd m

pub plain_durable : PlainIsDurable
plain_durable o s l rests m = plain_step s.event o s l refl rests m
