-- Calls that only look, one after the other.
use Rattle.std.proofs.Common.{◌≡◌, ℕ, ◌≤◌, IsTrue, List, sym, ◌∙◌, subst, arith}
use Rattle.sdb_disk.specs.Disk.{Files, State, Image, SameFiles, Elapses, Passes}
use Rattle.sdb_disk.proofs.CallLemmas.{Elapses-trans, Elapses-refl, LeavesOnly-none, LeavesOnly-trans, LeavesOnly-call, LeavesOnly-weaker, SameFiles-refl, SameFiles-trans, Image-same}
use Rattle.sdb_journal.specs.Looks.{Looks}

pub looks_call : (a b : State) → SameFiles a b → Passes a b → a.faults ≤ b.faults → b.syncs ≡ a.syncs → Looks a b
looks_call a b same passes later syncs = record {
  same = same;
  time = passes.time;
  images = LeavesOnly-call a b (Image a) passes (λ c image. image) (λ c image. Image-same a b c same image);
  faults = later;
  syncs = syncs;
}

pub looks_none : (a : State) → ((t : ℕ) (c : Files) → t ≤ a.moment → Image a c → a.left_since t c) → ((c : Files) → a.left_since a.moment c → Image a c) → Looks a a
looks_none a counts_now only_now = record {
  same = SameFiles-refl a;
  time = Elapses-refl a counts_now only_now;
  images = LeavesOnly-none a (Image a) only_now (λ c image. image);
  faults = omega arith;
  syncs = λ i. a.syncs;
}

pub looks_then : (a b c : State) → Looks a b → Looks b c → Looks a c
looks_then a b c first second = record {
  same = SameFiles-trans a b c first.same second.same;
  time = Elapses-trans a b c first.time second.time;
  images =
      LeavesOnly-trans a b c (Image a) first.time.later second.time first.images
      (LeavesOnly-weaker b c (Image b) (Image a) second.images (λ f image. Image-same a b f first.same image));
  faults = omega (arith, first.faults, second.faults);
  syncs = second.syncs ∙ first.syncs;
}

-- what is known of a file before a look is known after it, and the other way round
pub still : (a b : State) (file : ℕ) (P : List ℕ → Type 0) → Looks a b → (IsTrue a.told → P (a.seen file)) → IsTrue b.told → P (b.seen file)
still a b file P looks known told = subst P (sym (looks.same.files file).seen) (known (subst IsTrue looks.same.told told))

pub back : (a b : State) (file : ℕ) (P : List ℕ → Type 0) → Looks a b → (IsTrue b.told → P (b.seen file)) → IsTrue a.told → P (a.seen file)
back a b file P looks known told = subst P (looks.same.files file).seen (known (subst IsTrue (sym looks.same.told) told))
