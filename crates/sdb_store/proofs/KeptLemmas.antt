-- What a store keeps after each of its calls.
use Rattle.std.proofs.Common.{◌≡◌, ◌≢◌, ◌⊎◌, inl, inr, ⊎_elim, ℕ, ◌≤◌, IsTrue, Bool, true, false, List, [], ◌∷◌, Option, None, Some, refl, sym, ◌∙◌, ap, subst, arith}
use Rattle.std.proofs.lemmas.Bool.{false≢true}
use Rattle.sdb_disk.specs.Disk.{Files, State, Image, LeavesOnly, Elapses}
use Rattle.sdb_disk.proofs.CallLemmas.{LeavesOnly-weaker}
use Rattle.sdb_pairs.specs.Accounts.{DomainEntries}
use Rattle.sdb_pairs.specs.Changes.{state}
use Rattle.sdb_record.specs.Journals.{Group, next}
use Rattle.sdb_record.specs.Stands.{StandsFor}
use Rattle.sdb_record.proofs.StandsLemmas.{stand_for_one}
use Rattle.sdb_journal.specs.Rests.{StandsWith}
use Rattle.sdb_store.specs.Kept.{Contents, Keeps, Decides, waiting, number_with}
use Rattle.sdb_store.specs.Opened.{StandsAsBefore, StandsForSame}
use Rattle.sdb_store.proofs.CommitLemmas.{some_waits, some_counts}

-- every crash now is one since an earlier moment
abbrev pub CountsNow : State → Type 0
CountsNow s = (t : ℕ) (c : Files) → t ≤ s.moment → Image s c → s.left_since t c

pub now_left : (a b : State) (P : Files → Type 0) → CountsNow b → Elapses a b → LeavesOnly a b P → (c : Files) → Image b c → P c
now_left a b P counts time leaves c image = leaves c (counts a.moment c time.later image)

pub waits_stand : (a b : State) (accounts : DomainEntries) (number : ℕ) (group : Group) → group ≢ [] → LeavesOnly a b (StandsWith accounts number (Some group)) → LeavesOnly a b (StandsWith accounts number (waiting group))
waits_stand a b accounts number group some leaves = subst (λ w. LeavesOnly a b (StandsWith accounts number w)) (sym (some_waits group some)) leaves

-- ---- an opening
module _ (v : Contents) (s : State) (none : v.pending ≡ []) where
  pub keeps_own : ((c : Files) → Image s c → StandsFor v.accounts v.journal.sequence c) → Keeps v s v.accounts v.journal.sequence None
  keeps_own images = record { number_is = refl; images = images; sound = λ t. (refl, ap (λ p. state v.accounts p) (sym none)) }

  module _ (images : (c : Files) → Image s c → StandsFor v.accounts v.journal.sequence c) (seen : Files) (value : StandsFor v.accounts v.journal.sequence seen) where
    pub keeps_stood : (accounts : DomainEntries) (number : ℕ) → StandsFor accounts number seen → Keeps v s accounts number None
    keeps_stood accounts number stood =
        let one = stand_for_one seen v.accounts accounts v.journal.sequence number value stood in
        subst (λ a. Keeps v s a number None) one.0 (subst (λ n. Keeps v s v.accounts n None) one.1 (keeps_own images))

    pub decides : (accounts : DomainEntries) (number : ℕ) (undecided : Option Group) → StandsWith accounts number undecided seen → Decides v s accounts number undecided
    decides accounts number None stood = keeps_stood accounts number stood
    decides accounts number (Some group) (inl stood) = inl (keeps_stood accounts number stood)
    decides accounts number (Some group) (inr stood) = inr (keeps_stood (state accounts group) (next number) stood)

pub same_stands_with : (accounts : DomainEntries) (number : ℕ) (undecided : Option Group) (before c : Files) → StandsForSame before c → StandsWith accounts number undecided before → StandsWith accounts number undecided c
same_stands_with accounts number None before c same stood = same accounts number stood
same_stands_with accounts number (Some group) before c same (inl stood) = inl (same accounts number stood)
same_stands_with accounts number (Some group) before c same (inr stood) = inr (same (state accounts group) (next number) stood)

pub reopening_stands : (a b : State) (v : Contents) (accounts : DomainEntries) (number : ℕ) (undecided : Option Group) → Keeps v a accounts number undecided → LeavesOnly a b (StandsAsBefore a) → LeavesOnly a b (StandsWith accounts number undecided)
reopening_stands a b v accounts number undecided keeps leaves =
    LeavesOnly-weaker a b (StandsAsBefore a) (StandsWith accounts number undecided) leaves
    (λ c as_before. same_stands_with accounts number undecided as_before.before c as_before.same (keeps.images as_before.before as_before.was))

pub some_stands : (accounts : DomainEntries) (number : ℕ) (undecided : Option Group) (c : Files) (P : Type 0) → StandsWith accounts number undecided c
    → ((a : DomainEntries) (n : ℕ) → StandsFor a n c → P) → P
some_stands accounts number None c P stood given = given accounts number stood
some_stands accounts number (Some group) c P (inl stood) given = given accounts number stood
some_stands accounts number (Some group) c P (inr stood) given = given (state accounts group) (next number) stood

-- a store that isn't sound any more
pub keeps_unsound : (old new : Contents) (a b : State) (accounts : DomainEntries) (number : ℕ) (undecided : Option Group) → new.sound ≡ false → new.journal ≡ old.journal
    → old.journal.sequence ≡ number → ((c : Files) → Image b c → StandsWith accounts number undecided c) → Keeps new b accounts number undecided
keeps_unsound old new a b accounts number undecided unsound same number_is images = record {
  number_is = ap (λ j. j.sequence) same ∙ number_is;
  images = images;
  sound = λ t. absurd (false≢true (sym unsound ∙ t));
}

-- ---- a commit
pub keeps_idle : (v : Contents) (s : State) (accounts : DomainEntries) (number : ℕ) → v.pending ≡ [] → Keeps v s accounts number None → Keeps v s (state accounts v.pending) (number_with v.pending number) None
keeps_idle v s accounts number none keeps = subst (λ p. Keeps v s (state accounts p) (number_with p number) None) (sym none) keeps

pub keeps_committed : (old new : Contents) (b : State) (accounts : DomainEntries) (number : ℕ) → old.pending ≢ [] → new.pending ≡ [] → new.accounts ≡ old.accounts
    → new.journal.sequence ≡ next old.journal.sequence → old.journal.sequence ≡ number → old.accounts ≡ state accounts old.pending
    → ((c : Files) → Image b c → StandsFor (state accounts old.pending) (next number) c) → Keeps new b (state accounts old.pending) (number_with old.pending number) None
keeps_committed old new b accounts number some none same sequence number_is accounts_are images =
    subst (λ n. Keeps new b (state accounts old.pending) n None) (sym (some_counts old.pending number some))
    (record {
      number_is = sequence ∙ ap next number_is;
      images = images;
      sound = λ t. (refl, same ∙ accounts_are ∙ ap (λ p. state (state accounts old.pending) p) (sym none));
    })
