-- The crash prefix goes on with each step.
use Rattle.std.proofs.Common.{◌≡◌, ◌⊎◌, inl, inr, ⊎_elim, ℕ, List, [], ◌∷◌, ◌++◌, Option, None, Some, subst, arith}
use Rattle.sdb_arrivals.specs.Story.{Step}
use Rattle.sdb_disk.specs.Disk.{Files, State, Image, Elapses, LeavesOnly}
use Rattle.sdb_core.specs.Ledgers.{Opening}
use Rattle.sdb_core.specs.Prefix.{CrashPrefix, IsRightSince, Right, RightSince, moment_after}

-- what is right after all steps is right since an earlier one
begins : (follows : Option Step) (o : Opening) (later story : List Step) (c : Files) → Right follows o (later ++ story) c → RightSince follows o later story c
begins follows o [] story c right = right
begins follows o (s ∷ later) story c right = inl right

-- a step that follows takes nothing away
ahead : (s : Step) (o : Opening) (later story : List Step) (c : Files) → RightSince None o later story c → RightSince (Some s) o later story c
ahead s o [] story c right = inl right
ahead s o (t ∷ later) story c (inl right) = inl (inl right)
ahead s o (t ∷ later) story c (inr right) = inr right

module _ (old new : State) (o : Opening) (s : Step) (all : List Step) (time : Elapses old new)
    (only_now : (c : Files) → new.left_since new.moment c → Image new c) (at : s.moment ≡ new.moment)
    (images : (c : Files) → Image new c → Right None o (s ∷ all) c)
    (during : LeavesOnly old new (λ c. Right (Some s) o all c ⊎ Right None o (s ∷ all) c))
    (was : CrashPrefix old o all) where
  newest : IsRightSince new o [] (s ∷ all)
  newest = record {
    before = omega (arith, at);
    right = λ c left. images c (only_now c (subst (λ (m : ℕ). new.left_since m c) at left));
  }

  -- since a moment before, by what the steps before left, and by what this one left
  since_right : (later story : List Step) → all ≡ later ++ story → (c : Files) → old.left_since (moment_after o story) c ⊎ new.left_since old.moment c → RightSince None o (s ∷ later) story c
  since_right later story is c (inl before) = inr (ahead s o later story c ((was later story is).right c before))
  since_right later story is c (inr in_it) =
      ⊎_elim
      (λ right. inr (begins (Some s) o later story c (subst (λ (ss : List Step). Right (Some s) o ss c) is right)))
      (λ right. inl (subst (λ (ss : List Step). Right None o (s ∷ ss) c) is right))
      (during c in_it)

  since : (later story : List Step) → all ≡ later ++ story → IsRightSince new o (s ∷ later) story
  since later story is = record {
    before = omega (arith, (was later story is).before, time.later);
    right = λ c left. since_right later story is c (time.nothing_else (moment_after o story) c (was later story is).before left);
  }

  pub goes_on : CrashPrefix new o (s ∷ all)
  goes_on [] story is = subst (λ (ss : List Step). IsRightSince new o [] ss) is newest
  goes_on (r ∷ later) story is =
      let rest : all ≡ later ++ story = cc in
      let same : s ≡ r = cc in
      subst (λ (x : Step). IsRightSince new o (x ∷ later) story) same (since later story rest)

-- at the opening
pub begins_right : (s : State) (o : Opening) → ((c : Files) → s.left_since s.moment c → Image s c) → o.moment ≡ s.moment → ((c : Files) → Image s c → Right None o [] c) → CrashPrefix s o []
begins_right s o only_now at images [] story is = subst (λ (ss : List Step). IsRightSince s o [] ss) is (record {
  before = omega (arith, at);
  right = λ c left. images c (only_now c (subst (λ (m : ℕ). s.left_since m c) at left));
})
begins_right s o only_now at images (r ∷ later) story is = absurd cc
