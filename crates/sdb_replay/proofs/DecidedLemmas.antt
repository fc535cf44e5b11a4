-- A run in which the disk didn't fail.
use Rattle.std.proofs.Common.{◌≡◌, ℕ, zero, suc, ◌+◌, Bool, true, false, List, [], ◌∷◌, None, refl, sym, ◌∙◌, ap, subst, arith}
use Rattle.sdb_arrivals.specs.Story.{Answer, Done, Full, Disk, NotAStore, OutOfMemory, Event, Opened, Piece, Ended, Commit, Work, Step}
use Rattle.sdb_base.specs.Causes.{Rose}
use Rattle.sdb_core.specs.Ledgers.{Ledger, Opening, arrived, comes, commits, filled, if_sound, ledger, moves, works}
use Rattle.sdb_core.specs.Told.{RoseBy, faults_in, faults_of, faults_of_commit, faults_of_work}
use Rattle.sdb_replay.specs.Laws.{IsUnharmed}

-- the store is sound, and nothing is undecided
abbrev pub Settled : Ledger → Type 0
Settled l = (l.sound ≡ true) × (l.undecided ≡ None)

come-settled : (b : Bool) (o : Opening) (s : Step) (l : Ledger) → Settled l → Settled (if_sound b (filled o s.refused (arrived s.came l)) (arrived s.came l))
come-settled true o s l settled = settled
come-settled false o s l settled = settled

comes-settled : (a : Answer) (o : Opening) (s : Step) (l : Ledger) → Settled l → Settled (comes a o s l)
comes-settled Done o s l settled = come-settled l.sound o s l settled
comes-settled Full o s l settled = settled
comes-settled Disk o s l settled = settled
comes-settled (NotAStore file) o s l settled = settled
comes-settled OutOfMemory o s l settled = settled

commits-settled : (a : Answer) (o : Opening) (s : Step) (l : Ledger) → Settled l → faults_of_commit true a ≡ 0 → Settled (commits true a o s l)
commits-settled Done o s l settled none = settled
commits-settled Full o s l settled none = absurd (omega (arith, none))
commits-settled Disk o s l settled none = absurd (omega (arith, none))
commits-settled (NotAStore file) o s l settled none = absurd (omega (arith, none))
commits-settled OutOfMemory o s l settled none = absurd (omega (arith, none))

works-settled : (a : Answer) (l : Ledger) → Settled l → faults_of_work a ≡ 0 → Settled (works a l)
works-settled Done l settled none = settled
works-settled Full l settled none = settled
works-settled Disk l settled none = absurd (omega (arith, none))
works-settled (NotAStore file) l settled none = settled
works-settled OutOfMemory l settled none = settled

moves-settled : (e : Event) (o : Opening) (s : Step) (l : Ledger) → Settled l → faults_of l.sound e s.answer ≡ 0 → Settled (moves e o s l)
moves-settled (Opened conn) o s l settled none = settled
moves-settled (Piece conn moment bytes) o s l settled none = comes-settled s.answer o s l settled
moves-settled (Ended conn) o s l settled none = settled
moves-settled Commit o s l settled none =
    subst (λ b. Settled (commits b s.answer o s l)) (sym settled.0)
    (commits-settled s.answer o s l settled (ap (λ b. faults_of_commit b s.answer) (sym settled.0) ∙ none))
moves-settled Work o s l settled none = works-settled s.answer l settled none

pub settled : (o : Opening) (story : List Step) → faults_in o story ≡ 0 → Settled (ledger o story)
settled o [] none = (refl, refl)
settled o (s ∷ story) none =
    moves-settled s.event o s (ledger o story) (settled o story (omega (arith, none))) (omega (arith, none))

no_faults : (n before now : ℕ) → RoseBy n before now → (Rose before now → ⊥) → n ≡ 0
no_faults zero before now rose same = refl
no_faults (suc n) before now rose same = absurd (same (omega (arith, rose)))

-- where the disk's count didn't rise, no step tells of a fault
pub unharmed : (o : Opening) (story : List Step) → IsUnharmed o story → faults_in o story ≡ 0
unharmed o story is = no_faults (faults_in o story) is.before is.now is.told is.none

pub all_decided : (o : Opening) (story : List Step) → IsUnharmed o story → ((ledger o story).sound ≡ true) × ((ledger o story).undecided ≡ None)
all_decided o story is = settled o story (unharmed o story is)
