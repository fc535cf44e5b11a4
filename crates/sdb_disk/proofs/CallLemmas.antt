-- How calls of a disk compose: moments, and what a crash in a run of calls leaves. Lemmas of causes stand in sdb_base's `CauseLemmas`.
use Rattle.std.proofs.Common.{inl, inr, ⊎_elim, ℕ, ◌≤◌, List, refl, sym, ◌∙◌, arith}
use Rattle.sdb_disk.specs.Disk.{Files, State, Image, SettledFile, Torn, CutTo, SameFile, SameFiles, Elapses, Passes, LeavesOnly}

-- one run of calls after another
pub Elapses-trans : (a b c : State) → Elapses a b → Elapses b c → Elapses a c
Elapses-trans a b c first second = record {
  later = omega (arith, first.later, second.later);
  nothing_else = λ t f le left. ⊎_elim
      (λ then_left. ⊎_elim (λ at_first. inl at_first) (λ in_first. inr (second.keeps a.moment f first.later in_first)) (first.nothing_else t f le then_left))
      (λ in_second. inr (second.adds a.moment f first.later in_second))
      (second.nothing_else t f (omega (arith, le, first.later)) left);
  keeps = λ t f le left. second.keeps t f (omega (arith, le, first.later)) (first.keeps t f le left);
  adds = λ t f le left. ⊎_elim
      (λ in_first. second.keeps t f (omega (arith, le, first.later)) (first.adds t f le in_first))
      (λ in_second. second.adds t f (omega (arith, le, first.later)) in_second)
      (second.nothing_else a.moment f first.later left);
}

-- a run of no calls, at a disk with the laws `counts_now` and `only_now`
pub Elapses-refl : (a : State) → ((t : ℕ) (f : Files) → t ≤ a.moment → Image a f → a.left_since t f) → ((f : Files) → a.left_since a.moment f → Image a f) → Elapses a a
Elapses-refl a counts_now only_now = record {
  later = omega arith;
  nothing_else = λ t f le left. inl left;
  keeps = λ t f le left. left;
  adds = λ t f le left. counts_now t f le (only_now f left);
}

pub LeavesOnly-none : (a : State) (P : Files → Type 0) → ((f : Files) → a.left_since a.moment f → Image a f) → ((f : Files) → Image a f → P f) → LeavesOnly a a P
LeavesOnly-none a P only_now here f left = here f (only_now f left)

-- what holds of every crash in each of two runs holds of every crash in both
pub LeavesOnly-trans : (a b c : State) (P : Files → Type 0) → a.moment ≤ b.moment → Elapses b c → LeavesOnly a b P → LeavesOnly b c P → LeavesOnly a c P
LeavesOnly-trans a b c P later time first second f left =
    ⊎_elim (first f) (second f) (time.nothing_else a.moment f later left)

-- what holds of every crash before a call and after it holds of every crash in it
pub LeavesOnly-call : (a b : State) (P : Files → Type 0) → Passes a b → ((f : Files) → Image a f → P f) → ((f : Files) → Image b f → P f) → LeavesOnly a b P
LeavesOnly-call a b P passes before after f left = ⊎_elim (before f) (after f) (passes.during f left)

pub LeavesOnly-weaker : (a b : State) (P Q : Files → Type 0) → LeavesOnly a b P → ((f : Files) → P f → Q f) → LeavesOnly a b Q
LeavesOnly-weaker a b P Q leaves weaker f left = weaker f (leaves f left)

pub SameFile-refl : (a : State) (k : ℕ) → SameFile a a k
SameFile-refl a k = record { seen = refl; no_more = λ c left. left; no_fewer = λ c left. left; least = refl; greatest = refl }

pub SameFile-trans : (a b c : State) (k : ℕ) → SameFile a b k → SameFile b c k → SameFile a c k
SameFile-trans a b c k first second = record {
  seen = second.seen ∙ first.seen;
  no_more = λ f left. first.no_more f (second.no_more f left);
  no_fewer = λ f left. second.no_fewer f (first.no_fewer f left);
  least = second.least ∙ first.least;
  greatest = second.greatest ∙ first.greatest;
}

pub SameFiles-refl : (a : State) → SameFiles a a
SameFiles-refl a = record { told = refl; files = λ k. SameFile-refl a k }

pub SameFiles-trans : (a b c : State) → SameFiles a b → SameFiles b c → SameFiles a c
SameFiles-trans a b c first second = record {
  told = second.told ∙ first.told;
  files = λ k. SameFile-trans a b c k (first.files k) (second.files k);
}

-- a settled file that hasn't changed is settled still
pub SettledFile-same : (a b : State) (k : ℕ) → SameFile a b k → SettledFile a k → SettledFile b k
SettledFile-same a b k same settled c left = settled c (same.no_more c left) ∙ sym same.seen

-- images of files that haven't changed
pub Image-same : (a b : State) (f : Files) → SameFiles a b → Image b f → Image a f
Image-same a b f same image k = (same.files k).no_more (f k) (image k)

-- a file that nothing was written to is one that a torn write may leave
pub Torn-refl : (at n : ℕ) (c : List ℕ) → Torn at n c c
Torn-refl at n c = record { before = refl; after = refl; no_shorter = omega arith; no_longer = omega arith }

-- a file that nothing was cut from is one that a cut may leave
pub CutTo-refl : (n : ℕ) (c : List ℕ) → CutTo n c c
CutTo-refl n c = record { front = refl; no_longer = omega arith }
