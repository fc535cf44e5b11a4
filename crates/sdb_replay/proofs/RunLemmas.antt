-- What is held is what its arrivals execute to, but for those that had no memory; so its arrivals and its marks tell it.
use Rattle.std.proofs.Common.{◌≡◌, ℕ, ◌+◌, ◌-◌, Bool, true, false, List, [], ◌∷◌, ◌++◌, length, map, take, drop, refl, sym, ap, ◌∙◌, subst, arith}
use Rattle.std.proofs.lemmas.List.{length-map, map-append}
use Rattle.std.proofs.lemmas.List.Sums.{fold-append}
use Rattle.sdb_arrivals.specs.Story.{Answer, Done, Full, Disk, NotAStore, OutOfMemory, Event, Opened, Piece, Ended, Commit, Work, Arrival, Step}
use Rattle.sdb_pairs.specs.Accounts.{DomainEntries}
use Rattle.sdb_pairs.specs.Changes.{after_change, state}
use Rattle.sdb_pairs.specs.declared.change.Change.{Change}
use Rattle.sdb_core.specs.Ledgers.{Executed, Given, Ledger, Mark, Opening, arrived, as_answered, behind, changes_in, comes, commits, committed, durable, executed, executes, filled, first_or, free, gives, if_sound, ledger, moves, releases, seen, works}
use Rattle.sdb_core.specs.Told.{faults_in, faults_of, faults_of_commit, faults_of_work}
use Rattle.sdb_replay.proofs.DecidedLemmas.{settled}

-- the arrivals of what is held
abbrev pub arrivals_of : List Executed → List Arrival
arrivals_of held = map (λ (x : Executed). x.arrival) held

-- and the marks with which it is answered
abbrev pub marks_of : List Given → List Mark
marks_of given = map (λ (g : Given). g.mark) given

-- each is what its arrival executes to, over the accounts that those before it lead to
abbrev pub IsRun : DomainEntries → List Executed → Type 0
IsRun accounts [] = Unit {0}
IsRun accounts (x ∷ held) = ((refused : Bool) × (x ≡ executed refused accounts x.arrival)) × IsRun (state accounts x.changes) held

-- ---- one run

same_mark : (refused other : Bool) (accounts : DomainEntries) (w v : Arrival) → w ≡ v
    → (as_answered (executed refused accounts w)).mark ≡ (as_answered (executed other accounts v)).mark → executed refused accounts w ≡ executed other accounts v
same_mark true true accounts w v is mark = ap (executed true accounts) is
same_mark true false accounts w v is mark = absurd cc
same_mark false true accounts w v is mark = absurd cc
same_mark false false accounts w v is mark = ap (executed false accounts) is

pub one_run : (accounts : DomainEntries) (held other : List Executed) → IsRun accounts held → IsRun accounts other → arrivals_of held ≡ arrivals_of other
    → marks_of (map as_answered held) ≡ marks_of (map as_answered other) → held ≡ other
one_run accounts [] [] run run_other arrivals marks = refl
one_run accounts [] (y ∷ other) run run_other arrivals marks = absurd cc
one_run accounts (x ∷ held) [] run run_other arrivals marks = absurd cc
one_run accounts (x ∷ held) (y ∷ other) ((refused, is), run) ((refused_other, is_other), run_other) arrivals marks =
    let first : x.arrival ≡ y.arrival = cc in
    let rest : arrivals_of held ≡ arrivals_of other = cc in
    let mark : (as_answered x).mark ≡ (as_answered y).mark = cc in
    let marks_rest : marks_of (map as_answered held) ≡ marks_of (map as_answered other) = cc in
    let here : (as_answered (executed refused accounts x.arrival)).mark ≡ (as_answered (executed refused_other accounts y.arrival)).mark =
    sym (ap (λ (z : Executed). (as_answered z).mark) is) ∙ (mark ∙ ap (λ (z : Executed). (as_answered z).mark) is_other) in
    let same : x ≡ y = is ∙ (same_mark refused refused_other accounts x.arrival y.arrival first here ∙ sym is_other) in
    let run_same : IsRun (state accounts x.changes) other = subst (λ (z : Executed). IsRun (state accounts z.changes) other) (sym same) run_other in
    λ i. same i ∷ one_run (state accounts x.changes) held other run run_same rest marks_rest i

run-append : (accounts : DomainEntries) (held more : List Executed) → IsRun accounts held → IsRun (state accounts (changes_in held)) more → IsRun accounts (held ++ more)
run-append accounts [] more run run_more = run_more
run-append accounts (x ∷ held) more (first, run) run_more = (
  first,
  run-append (state accounts x.changes) held more run
      (subst (λ (a : DomainEntries). IsRun a more) (fold-append after_change accounts x.changes (changes_in held)) run_more),
)

executed_arrival : (refused : Bool) (accounts : DomainEntries) (w : Arrival) → (executed refused accounts w).arrival ≡ w
executed_arrival true accounts w = refl
executed_arrival false accounts w = refl

run-executes : (accounts : DomainEntries) (refused : List Bool) (ws : List Arrival) → IsRun accounts (executes accounts refused ws)
run-executes accounts refused [] = tt
run-executes accounts refused (w ∷ ws) = (
  (first_or refused, ap (executed (first_or refused) accounts) (sym (executed_arrival (first_or refused) accounts w))),
  run-executes (state accounts (executed (first_or refused) accounts w).changes) (behind refused) ws,
)

arrivals-executes : (accounts : DomainEntries) (refused : List Bool) (ws : List Arrival) → arrivals_of (executes accounts refused ws) ≡ ws
arrivals-executes accounts refused [] = refl
arrivals-executes accounts refused (w ∷ ws) =
    λ i. executed_arrival (first_or refused) accounts w i ∷ arrivals-executes (state accounts (executed (first_or refused) accounts w).changes) (behind refused) ws i

-- ---- a ledger

-- what it holds is a run over what is durable
abbrev pub Runs : Opening → Ledger → Type 0
Runs o l = IsRun (durable o l.groups) l.held

runs-filled : (o : Opening) (refused : List Bool) (l : Ledger) → Runs o l → Runs o (filled o refused l)
runs-filled o refused l run =
    run-append (durable o l.groups) l.held (executes (seen o l) refused (take (free l) l.waiting)) run (run-executes (seen o l) refused (take (free l) l.waiting))

pub arrivals-filled : (o : Opening) (refused : List Bool) (l : Ledger) → arrivals_of (filled o refused l).held ≡ arrivals_of l.held ++ take (free l) l.waiting
arrivals-filled o refused l =
    map-append (λ (x : Executed). x.arrival) l.held (executes (seen o l) refused (take (free l) l.waiting))
    ∙ ap (λ (ws : List Arrival). arrivals_of l.held ++ ws) (arrivals-executes (seen o l) refused (take (free l) l.waiting))

-- ---- a step in which the disk didn't fail, of a store that is sound

pub commit_done : (a : Answer) → faults_of_commit true a ≡ 0 → a ≡ Done
commit_done Done none = refl
commit_done Full none = absurd (omega (arith, none))
commit_done Disk none = absurd (omega (arith, none))
commit_done (NotAStore file) none = absurd (omega (arith, none))
commit_done OutOfMemory none = absurd (omega (arith, none))

pub work_idle : (a : Answer) (l : Ledger) → faults_of_work a ≡ 0 → works a l ≡ l
work_idle Done l none = refl
work_idle Full l none = refl
work_idle Disk l none = absurd (omega (arith, none))
work_idle (NotAStore file) l none = refl
work_idle OutOfMemory l none = refl

pub commit_moves : (o : Opening) (s : Step) (l : Ledger) → l.sound ≡ true → s.answer ≡ Done → commits l.sound s.answer o s l ≡ filled o s.refused (committed l)
commit_moves o s l sound done = λ i. commits (sound i) (done i) o s l

pub commit_gives : (a : Answer) (l : Ledger) → l.sound ≡ true → a ≡ Done → releases l.sound a l ≡ map as_answered l.held
commit_gives a l sound done = λ i. releases (sound i) (done i) l

-- a commit without a fault is done
pub commit_is_done : (a : Answer) (l : Ledger) → l.sound ≡ true → faults_of l.sound Commit a ≡ 0 → a ≡ Done
commit_is_done a l sound none = commit_done a (ap (λ (b : Bool). faults_of_commit b a) (sym sound) ∙ none)

pub piece_moves : (o : Opening) (s : Step) (l : Ledger) → l.sound ≡ true → comes Done o s l ≡ filled o s.refused (arrived s.came l)
piece_moves o s l sound = λ i. if_sound (sound i) (filled o s.refused (arrived s.came l)) (arrived s.came l)

runs-comes : (a : Answer) (o : Opening) (s : Step) (l : Ledger) → l.sound ≡ true → Runs o l → Runs o (comes a o s l)
runs-comes Done o s l sound run = subst (Runs o) (sym (piece_moves o s l sound)) (runs-filled o s.refused (arrived s.came l) run)
runs-comes Full o s l sound run = run
runs-comes Disk o s l sound run = run
runs-comes (NotAStore file) o s l sound run = run
runs-comes OutOfMemory o s l sound run = run

runs-moves : (e : Event) (o : Opening) (s : Step) (l : Ledger) → l.sound ≡ true → faults_of l.sound e s.answer ≡ 0 → Runs o l → Runs o (moves e o s l)
runs-moves (Opened conn) o s l sound none run = run
runs-moves (Piece conn moment bytes) o s l sound none run = runs-comes s.answer o s l sound run
runs-moves (Ended conn) o s l sound none run = run
runs-moves Commit o s l sound none run =
    subst (Runs o) (sym (commit_moves o s l sound (commit_is_done s.answer l sound none))) (runs-filled o s.refused (committed l) tt)
runs-moves Work o s l sound none run = subst (Runs o) (sym (work_idle s.answer l none)) run

-- the parts of a story without a fault have none
pub none_before : (o : Opening) (s : Step) (story : List Step) → faults_in o (s ∷ story) ≡ 0 → faults_in o story ≡ 0
none_before o s story none = omega (arith, none)

pub none_last : (o : Opening) (s : Step) (story : List Step) → faults_in o (s ∷ story) ≡ 0 → faults_of (ledger o story).sound s.event s.answer ≡ 0
none_last o s story none = omega (arith, none)

pub sound_in : (o : Opening) (story : List Step) → faults_in o story ≡ 0 → (ledger o story).sound ≡ true
sound_in o story none = (settled o story none).0

pub runs_in : (o : Opening) (story : List Step) → faults_in o story ≡ 0 → Runs o (ledger o story)
runs_in o [] none = tt
runs_in o (s ∷ story) none =
    runs-moves s.event o s (ledger o story) (sound_in o story (none_before o s story none)) (none_last o s story none) (runs_in o story (none_before o s story none))
