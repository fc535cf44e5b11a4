-- Files synced one after the other, and what a crash meanwhile leaves.
use Rattle.std.proofs.Common.{◌≡◌, ◌≢◌, inl, inr, ⊎_elim, ℕ, ◌+◌, ◌≤◌, ◌<◌, List, Ok, Result, refl, sym, ◌∙◌, subst, arith}
use Rattle.std.proofs.lemmas.Bool.{cases_eq}
use Rattle.sdb_disk.specs.Disk.{Files, State, Image, SettledFile, SameFile, Syncs, LeavesOnly, Elapses, Passes}
use Rattle.sdb_disk.proofs.CallLemmas.{Elapses-trans, Elapses-refl, LeavesOnly-none, LeavesOnly-trans, LeavesOnly-call, SettledFile-same}
use Rattle.sdb_store.specs.Synced.{Synced}

pub synced_none : (a : State) → ((t : ℕ) (c : Files) → t ≤ a.moment → Image a c → a.left_since t c) → ((c : Files) → a.left_since a.moment c → Image a c) → Synced 0 a a
synced_none a counts_now only_now = record {
  told = refl;
  settled = λ k below. absurd (omega arith);
  seen = λ k. refl;
  no_more = λ k c left. left;
  time = Elapses-refl a counts_now only_now;
  images = LeavesOnly-none a (Image a) only_now (λ c image. image);
  faults = omega arith;
  syncs = omega arith;
}

module _ {T E : Type 0} (result : Result T E) (file : ℕ) (old a b : State) (synced : Synced file old a) (change : Syncs file result a b) (passes : Passes a b) where
  left_before : (k : ℕ) (c : List ℕ) → b.may_leave k c → old.may_leave k c
  left_before k c left = ⊎_elim
      (λ here. synced.no_more k c (subst (λ j. a.may_leave j c) (sym here) (change.no_more c (subst (λ j. b.may_leave j c) here left))))
      (λ other. synced.no_more k c ((change.others k other).no_more c left))
      (cases_eq k file)

  pub sync_leaves : LeavesOnly old b (Image old)
  sync_leaves =
      LeavesOnly-trans old a b (Image old) synced.time.later passes.time synced.images
      (LeavesOnly-call a b (Image old) passes (λ c image k. synced.no_more k (c k) (image k)) (λ c image k. left_before k (c k) (image k)))

  pub sync_elapses : Elapses old b
  sync_elapses = Elapses-trans old a b synced.time passes.time

pub synced_more : {T E : Type 0} (x : T) (file : ℕ) (old a b : State) → Synced file old a → Syncs {T = T} {E = E} file (Ok x) a b → Passes a b → a.faults ≤ b.faults → b.syncs ≤ a.syncs + 1 → Synced (file + 1) old b
synced_more {T} {E} x file old a b synced change passes later syncs = record {
  told = change.told ∙ synced.told;
  settled = λ k below. ⊎_elim
      (λ here. subst (SettledFile b) (sym here) change.durable)
      (λ other. SettledFile-same a b k (change.others k other) (synced.settled k (omega (arith, other))))
      (cases_eq k file);
  seen = λ k. ⊎_elim
      (λ here. subst (λ j. b.seen j ≡ a.seen j) (sym here) change.seen ∙ synced.seen k)
      (λ other. (change.others k other).seen ∙ synced.seen k)
      (cases_eq k file);
  no_more = left_before {T = T} {E = E} (Ok x) file old a b synced change passes;
  time = sync_elapses {T = T} {E = E} (Ok x) file old a b synced change passes;
  images = sync_leaves {T = T} {E = E} (Ok x) file old a b synced change passes;
  faults = omega (arith, synced.faults, later);
  syncs = omega (arith, synced.syncs, syncs);
}
