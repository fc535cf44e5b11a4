-- Where the disk didn't fail, keys, files, script and marks tell what is shown.
use Rattle.std.proofs.Common.{◌≡◌, ℕ, ◌+◌, ◌-◌, zero, suc, Bool, true, false, List, [], ◌∷◌, ◌++◌, length, map, take, drop, refl, sym, ap, ◌∙◌, subst, length-append, arith}
use Rattle.std.proofs.lemmas.List.{length-map, map-append}
use Rattle.sdb_arrivals.proofs.AlikeLemmas.{alike_same}
use Rattle.sdb_arrivals.specs.Alike.{AreAlike, AreReadIn, AreSame}
use Rattle.sdb_arrivals.specs.Framing.{AreFramed}
use Rattle.sdb_arrivals.specs.Story.{Answer, Done, Full, Disk, NotAStore, OutOfMemory, Event, Opened, Piece, Ended, Commit, Work, Arrival, Step}
use Rattle.sdb_keys.specs.declared.keys.Key.{Key}
use Rattle.sdb_pairs.specs.Accounts.{DomainEntries}
use Rattle.sdb_pairs.specs.Changes.{state}
use Rattle.sdb_record.specs.Journals.{Group}
use Rattle.sdb_core.specs.Ledgers.{Executed, Given, Ledger, Mark, Opening, arrived, as_answered, changes_in, comes, commits, committed, durable, filled, free, gives, if_sound, ledger, moves, released, releases, sent_by, with_group, works}
use Rattle.sdb_core.specs.Told.{AreSteps, faults_in, faults_of}
use Rattle.sdb_replay.specs.Events.{happened}
use Rattle.sdb_replay.specs.Laws.{BeginAlike, IsUnharmed, OneIsShown, answers_in, marks}
use Rattle.sdb_replay.specs.Shown.{refusal_text, sent_texts, shown, step_text}
use Rattle.sdb_replay.proofs.DecidedLemmas.{unharmed}
use Rattle.sdb_replay.proofs.RunLemmas.{IsRun, Runs, arrivals-filled, arrivals_of, commit_gives, commit_is_done, commit_moves, marks_of, none_before, none_last, one_run, piece_moves, runs_in, sound_in, work_idle}

-- ---- lists

last_both : {A : Type 0} (xs ys : List A) (x y : A) → xs ++ x ∷ [] ≡ ys ++ y ∷ [] → (xs ≡ ys) × (x ≡ y)
last_both [] [] x y is = (refl, cc)
last_both [] (b ∷ []) x y is = absurd cc
last_both [] (b ∷ c ∷ ys) x y is = absurd cc
last_both (a ∷ []) [] x y is = absurd cc
last_both (a ∷ c ∷ xs) [] x y is = absurd cc
last_both (a ∷ xs) (b ∷ ys) x y is =
    let first : a ≡ b = cc in
    let rest : xs ++ x ∷ [] ≡ ys ++ y ∷ [] = cc in
    let both : (xs ≡ ys) × (x ≡ y) = last_both xs ys x y rest in
    let joined : a ∷ xs ≡ b ∷ ys = λ i. first i ∷ both.0 i in
    (joined, both.1)

front_both : {A : Type 0} (xs ys us vs : List A) → length xs ≡ length ys → xs ++ us ≡ ys ++ vs → (xs ≡ ys) × (us ≡ vs)
front_both [] [] us vs long is = (refl, is)
front_both [] (b ∷ ys) us vs long is = absurd (omega (arith, long))
front_both (a ∷ xs) [] us vs long is = absurd (omega (arith, long))
front_both (a ∷ xs) (b ∷ ys) us vs long is =
    let first : a ≡ b = cc in
    let rest : xs ++ us ≡ ys ++ vs = cc in
    let both : (xs ≡ ys) × (us ≡ vs) = front_both xs ys us vs (omega (arith, long)) rest in
    let joined : a ∷ xs ≡ b ∷ ys = λ i. first i ∷ both.0 i in
    (joined, both.1)

not_nothing : {A : Type 0} (xs : List A) (x : A) → [] ≡ xs ++ x ∷ [] → ⊥
not_nothing [] x is = cc
not_nothing (a ∷ xs) x is = cc

-- ---- the same happens

alike : (story other : List Step) → happened story ≡ happened other → answers_in story ≡ answers_in other → AreAlike story other
alike [] [] events answers = tt
alike [] (t ∷ other) events answers = absurd (not_nothing (happened other) t.event events)
alike (s ∷ story) [] events answers = absurd (not_nothing (happened story) s.event (sym events))
alike (s ∷ story) (t ∷ other) events answers =
    let event : (happened story ≡ happened other) × (s.event ≡ t.event) = last_both (happened story) (happened other) s.event t.event events in
    let answer : (answers_in story ≡ answers_in other) × (s.answer ≡ t.answer) = last_both (answers_in story) (answers_in other) s.answer t.answer answers in
    (event.1, answer.1, alike story other event.0 answer.0)

framed : (o : Opening) (story : List Step) → AreSteps o story → AreFramed story
framed o [] steps = tt
framed o (s ∷ story) steps = (steps.0.brings, steps.0.messages, framed o story steps.1)

are_read : (o : Opening) (story : List Step) → AreSteps o story → AreReadIn o.keys story
are_read o [] steps = tt
are_read o (s ∷ story) steps = (steps.0.are_read, are_read o story steps.1)

-- ---- ledgers alike, whatever their marks

pub record HoldAlike (l k : Ledger) : Type 0 where
  pub held : arrivals_of l.held ≡ arrivals_of k.held
  pub waiting : l.waiting ≡ k.waiting

long : (l k : Ledger) → HoldAlike l k → length l.held ≡ length k.held
long l k h = sym (length-map l.held (λ (x : Executed). x.arrival)) ∙ (ap length h.held ∙ length-map k.held (λ (x : Executed). x.arrival))

filled_alike : (o p : Opening) (refused other : List Bool) (l k : Ledger) → HoldAlike l k → HoldAlike (filled o refused l) (filled p other k)
filled_alike o p refused other l k h =
    let room : free l ≡ free k = ap (λ (n : ℕ). 64 - n) (long l k h) in
    let joined : arrivals_of l.held ++ take (free l) l.waiting ≡ arrivals_of k.held ++ take (free k) k.waiting = λ i. h.held i ++ take (room i) (h.waiting i) in
    record {
      held = arrivals-filled o refused l ∙ (joined ∙ sym (arrivals-filled p other k));
      waiting = λ i. drop (room i) (h.waiting i);
    }

come_groups : (o : Opening) (s : Step) (l : Ledger) (b : Bool) → l.groups ≡ (if_sound b (filled o s.refused (arrived s.came l)) (arrived s.came l)).groups
come_groups o s l true = refl
come_groups o s l false = refl

-- a piece leaves what is durable
piece_groups : (o : Opening) (s : Step) (l : Ledger) (a : Answer) → l.groups ≡ (comes a o s l).groups
piece_groups o s l Done = come_groups o s l l.sound
piece_groups o s l Full = refl
piece_groups o s l Disk = refl
piece_groups o s l (NotAStore file) = refl
piece_groups o s l OutOfMemory = refl

module _ (o p : Opening) (s t : Step) (l k : Ledger) (sound : l.sound ≡ true) (sound_other : k.sound ≡ true) (h : HoldAlike l k) (came : s.came ≡ t.came) where
  comes_alike : (a : Answer) → HoldAlike (comes a o s l) (comes a p t k)
  comes_alike Done =
      subst (λ (m : Ledger). HoldAlike m (comes Done p t k)) (sym (piece_moves o s l sound))
      (subst (λ (m : Ledger). HoldAlike (filled o s.refused (arrived s.came l)) m) (sym (piece_moves p t k sound_other))
      (filled_alike o p s.refused t.refused (arrived s.came l) (arrived t.came k) (record { held = h.held; waiting = λ i. h.waiting i ++ came i })))
  comes_alike Full = h
  comes_alike Disk = h
  comes_alike (NotAStore file) = h
  comes_alike OutOfMemory = h

  commit_alike : s.answer ≡ Done → t.answer ≡ Done → HoldAlike (commits l.sound s.answer o s l) (commits k.sound t.answer p t k)
  commit_alike done done_other =
      subst (λ (m : Ledger). HoldAlike m (commits k.sound t.answer p t k)) (sym (commit_moves o s l sound done))
      (subst (λ (m : Ledger). HoldAlike (filled o s.refused (committed l)) m) (sym (commit_moves p t k sound_other done_other))
      (filled_alike o p s.refused t.refused (committed l) (committed k) (record { held = refl; waiting = h.waiting })))

  moves_alike : (e : Event) → s.answer ≡ t.answer → faults_of l.sound e s.answer ≡ 0 → faults_of k.sound e t.answer ≡ 0 → HoldAlike (moves e o s l) (moves e p t k)
  moves_alike (Opened conn) answer none none_other = h
  moves_alike (Piece conn moment bytes) answer none none_other = subst (λ (a : Answer). HoldAlike (comes s.answer o s l) (comes a p t k)) answer (comes_alike s.answer)
  moves_alike (Ended conn) answer none none_other = h
  moves_alike Commit answer none none_other = commit_alike (commit_is_done s.answer l sound none) (commit_is_done t.answer k sound_other none_other)
  moves_alike Work answer none none_other =
      subst (λ (m : Ledger). HoldAlike m (works t.answer k)) (sym (work_idle s.answer l none)) (subst (λ (m : Ledger). HoldAlike l m) (sym (work_idle t.answer k none_other)) h)

  -- as many answers are released
  gives_long : (e : Event) → faults_of l.sound e s.answer ≡ 0 → faults_of k.sound e t.answer ≡ 0 → length (gives e s.answer l) ≡ length (gives e t.answer k)
  gives_long (Opened conn) none none_other = refl
  gives_long (Piece conn moment bytes) none none_other = refl
  gives_long (Ended conn) none none_other = refl
  gives_long Commit none none_other =
      ap length (commit_gives s.answer l sound (commit_is_done s.answer l sound none))
      ∙ (length-map l.held as_answered ∙ (long l k h ∙ (sym (length-map k.held as_answered)
      ∙ ap length (sym (commit_gives t.answer k sound_other (commit_is_done t.answer k sound_other none_other))))))
  gives_long Work none none_other = refl

  -- and where their marks are the same, the same
  gives_same : (accounts : DomainEntries) → IsRun accounts l.held → IsRun accounts k.held → (e : Event) → faults_of l.sound e s.answer ≡ 0 → faults_of k.sound e t.answer ≡ 0
      → marks_of (gives e s.answer l) ≡ marks_of (gives e t.answer k) → gives e s.answer l ≡ gives e t.answer k
  gives_same accounts run run_other (Opened conn) none none_other marks = refl
  gives_same accounts run run_other (Piece conn moment bytes) none none_other marks = refl
  gives_same accounts run run_other (Ended conn) none none_other marks = refl
  gives_same accounts run run_other Commit none none_other marks =
      let is : releases l.sound s.answer l ≡ map as_answered l.held = commit_gives s.answer l sound (commit_is_done s.answer l sound none) in
      let is_other : releases k.sound t.answer k ≡ map as_answered k.held = commit_gives t.answer k sound_other (commit_is_done t.answer k sound_other none_other) in
      is ∙ (ap (map as_answered) (one_run accounts l.held k.held run run_other h.held (sym (ap marks_of is) ∙ (marks ∙ ap marks_of is_other))) ∙ sym is_other)
  gives_same accounts run run_other Work none none_other marks = refl

  -- and the same is durable after it
  groups_same : (accounts : DomainEntries) → IsRun accounts l.held → IsRun accounts k.held → l.groups ≡ k.groups → (e : Event) → s.answer ≡ t.answer
      → faults_of l.sound e s.answer ≡ 0 → faults_of k.sound e t.answer ≡ 0
      → marks_of (gives e s.answer l) ≡ marks_of (gives e t.answer k) → (moves e o s l).groups ≡ (moves e p t k).groups
  groups_same accounts run run_other same (Opened conn) answer none none_other marks = same
  groups_same accounts run run_other same (Piece conn moment bytes) answer none none_other marks = sym (piece_groups o s l s.answer) ∙ (same ∙ piece_groups p t k t.answer)
  groups_same accounts run run_other same (Ended conn) answer none none_other marks = same
  groups_same accounts run run_other same Commit answer none none_other marks =
      let done : s.answer ≡ Done = commit_is_done s.answer l sound none in
      let done_other : t.answer ≡ Done = commit_is_done t.answer k sound_other none_other in
      let is : releases l.sound s.answer l ≡ map as_answered l.held = commit_gives s.answer l sound done in
      let is_other : releases k.sound t.answer k ≡ map as_answered k.held = commit_gives t.answer k sound_other done_other in
      let held : l.held ≡ k.held = one_run accounts l.held k.held run run_other h.held (sym (ap marks_of is) ∙ (marks ∙ ap marks_of is_other)) in
      let grown : with_group (changes_in l.held) l.groups ≡ with_group (changes_in k.held) k.groups = λ i. with_group (changes_in (held i)) (same i) in
      ap (λ (m : Ledger). m.groups) (commit_moves o s l sound done)
      ∙ (grown ∙ sym (ap (λ (m : Ledger). m.groups) (commit_moves p t k sound_other done_other)))
  groups_same accounts run run_other same Work answer none none_other marks =
      ap (λ (m : Ledger). m.groups) (work_idle s.answer l none) ∙ (same ∙ sym (ap (λ (m : Ledger). m.groups) (work_idle t.answer k none_other)))

-- ---- stories

-- a fault that an event would tell, of the event of the other story
none_of : (sound : Bool) (e f : Event) (a : Answer) → e ≡ f → faults_of sound f a ≡ 0 → faults_of sound e a ≡ 0
none_of sound e f a is none = ap (λ (x : Event). faults_of sound x a) is ∙ none

module _ (o p : Opening) where
  hold_alike : (story other : List Step) → AreSame story other → faults_in o story ≡ 0 → faults_in p other ≡ 0 → HoldAlike (ledger o story) (ledger p other)
  hold_alike [] [] same none none_other = record { held = refl; waiting = refl }
  hold_alike [] (t ∷ other) same none none_other = absurd same
  hold_alike (s ∷ story) [] same none none_other = absurd same
  hold_alike (s ∷ story) (t ∷ other) same none none_other =
      let before : faults_in o story ≡ 0 = none_before o s story none in
      let before_other : faults_in p other ≡ 0 = none_before p t other none_other in
      subst (λ (e : Event). HoldAlike (moves s.event o s (ledger o story)) (moves e p t (ledger p other))) same.0
      (moves_alike o p s t (ledger o story) (ledger p other) (sound_in o story before) (sound_in p other before_other) (hold_alike story other same.3 before before_other) same.2
      s.event same.1 (none_last o s story none) (none_of (ledger p other).sound s.event t.event t.answer same.0 (none_last p t other none_other)))

  released_long : (story other : List Step) → AreSame story other → faults_in o story ≡ 0 → faults_in p other ≡ 0 → length (released o story) ≡ length (released p other)
  released_long [] [] same none none_other = refl
  released_long [] (t ∷ other) same none none_other = absurd same
  released_long (s ∷ story) [] same none none_other = absurd same
  released_long (s ∷ story) (t ∷ other) same none none_other =
      let before : faults_in o story ≡ 0 = none_before o s story none in
      let before_other : faults_in p other ≡ 0 = none_before p t other none_other in
      let last : length (gives s.event s.answer (ledger o story)) ≡ length (gives t.event t.answer (ledger p other)) =
      subst (λ (e : Event). length (gives s.event s.answer (ledger o story)) ≡ length (gives e t.answer (ledger p other))) same.0
      (gives_long o p s t (ledger o story) (ledger p other) (sound_in o story before) (sound_in p other before_other) (hold_alike story other same.3 before before_other) same.2
      s.event (none_last o s story none) (none_of (ledger p other).sound s.event t.event t.answer same.0 (none_last p t other none_other))) in
      let earlier : length (released o story) ≡ length (released p other) = released_long story other same.3 before before_other in
      let both : length (released o story) + length (gives s.event s.answer (ledger o story)) ≡ length (released p other) + length (gives t.event t.answer (ledger p other)) =
      λ i. earlier i + last i in
      length-append (released o story) (gives s.event s.answer (ledger o story))
      ∙ (both ∙ sym (length-append (released p other) (gives t.event t.answer (ledger p other))))

  -- the marks of a story are those before its last step, and those of that step
  marks_both : (s t : Step) (story other : List Step) → AreSame story other → faults_in o story ≡ 0 → faults_in p other ≡ 0 → marks o (s ∷ story) ≡ marks p (t ∷ other)
      → (marks o story ≡ marks p other) × (marks_of (gives s.event s.answer (ledger o story)) ≡ marks_of (gives t.event t.answer (ledger p other)))
  marks_both s t story other same none none_other is =
      front_both (marks o story) (marks p other) (marks_of (gives s.event s.answer (ledger o story))) (marks_of (gives t.event t.answer (ledger p other)))
      (length-map (released o story) (λ (g : Given). g.mark) ∙ (released_long story other same none none_other ∙ sym (length-map (released p other) (λ (g : Given). g.mark))))
      (sym (map-append (λ (g : Given). g.mark) (released o story) (gives s.event s.answer (ledger o story)))
      ∙ (is ∙ map-append (λ (g : Given). g.mark) (released p other) (gives t.event t.answer (ledger p other))))

  module _ (begin : BeginAlike o p) where
    durable_same : (groups : List Group) → durable o groups ≡ durable p groups
    durable_same [] = begin.accounts
    durable_same (group ∷ earlier) = ap (λ (a : DomainEntries). state a group) (durable_same earlier)

    -- what the other story holds is a run over what is durable in this one
    run_here : (l k : Ledger) → l.groups ≡ k.groups → Runs p k → IsRun (durable o l.groups) k.held
    run_here l k same run =
        subst (λ (a : DomainEntries). IsRun a k.held) (sym (durable_same l.groups)) (subst (λ (gs : List Group). IsRun (durable p gs) k.held) (sym same) run)

    both_same : (story other : List Step) → AreSame story other → faults_in o story ≡ 0 → faults_in p other ≡ 0 → marks o story ≡ marks p other
        → ((ledger o story).groups ≡ (ledger p other).groups) × (shown o story ≡ shown p other)
    both_same [] [] same none none_other is = (refl, refl)
    both_same [] (t ∷ other) same none none_other is = absurd same
    both_same (s ∷ story) [] same none none_other is = absurd same
    both_same (s ∷ story) (t ∷ other) same none none_other is =
        let before : faults_in o story ≡ 0 = none_before o s story none in
        let before_other : faults_in p other ≡ 0 = none_before p t other none_other in
        let l : Ledger = ledger o story in
        let k : Ledger = ledger p other in
        let sound : l.sound ≡ true = sound_in o story before in
        let sound_other : k.sound ≡ true = sound_in p other before_other in
        let h : HoldAlike l k = hold_alike story other same.3 before before_other in
        let parts : (marks o story ≡ marks p other) × (marks_of (gives s.event s.answer l) ≡ marks_of (gives t.event t.answer k)) =
        marks_both s t story other same.3 before before_other is in
        let earlier : (l.groups ≡ k.groups) × (shown o story ≡ shown p other) = both_same story other same.3 before before_other parts.0 in
        let run : IsRun (durable o l.groups) l.held = runs_in o story before in
        let run_other : IsRun (durable o l.groups) k.held = run_here l k earlier.0 (runs_in p other before_other) in
        let last : faults_of l.sound s.event s.answer ≡ 0 = none_last o s story none in
        let last_other : faults_of k.sound s.event t.answer ≡ 0 = none_of k.sound s.event t.event t.answer same.0 (none_last p t other none_other) in
        let marks_last : marks_of (gives s.event s.answer l) ≡ marks_of (gives s.event t.answer k) =
        parts.1 ∙ ap (λ (e : Event). marks_of (gives e t.answer k)) (sym same.0) in
        let given : gives s.event s.answer l ≡ gives t.event t.answer k =
        gives_same o p s t l k sound sound_other h same.2 (durable o l.groups) run run_other s.event last last_other marks_last ∙ ap (λ (e : Event). gives e t.answer k) same.0 in (
          groups_same o p s t l k sound sound_other h same.2 (durable o l.groups) run run_other earlier.0 s.event same.1 last last_other marks_last
              ∙ ap (λ (e : Event). (moves e p t k).groups) same.0,
          λ i. earlier.1 i ++ (sent_texts (map sent_by (given i)) ++ refusal_text (same.0 i) (same.1 i)),
        )

pub one_is_shown : OneIsShown
one_is_shown o p story other begin steps steps_other whole whole_other events answers is =
    let read_other : AreReadIn o.keys other = subst (λ (keys : List Key). AreReadIn keys other) (sym begin.keys) (are_read p other steps_other) in
    let same : AreSame story other = alike_same o.keys story other (alike story other events answers) (framed o story steps) (framed p other steps_other) (are_read o story steps) read_other in
    (both_same o p begin story other same (unharmed o story whole) (unharmed p other whole_other) is).1
