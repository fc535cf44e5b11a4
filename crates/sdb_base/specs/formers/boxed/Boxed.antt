-- How a `Boxed` stores its value, so that a type may hold a box of itself.
use mathlib.Core.Path.{refl}
use mathlib.Core.Former.{Former, this, const, pair, via}
use base.Stored.{gnil}
use base.Fml.{ftrue}
use denote.RattleType.{RattleType}
use denote.Memory.{part_of}
use denote.RawPtr.{Ptr}
use denote.Sharing.{nothing}
use denote.HoleLaws.{Alike}
use denote.HolePlaces.{Recodes, struct_places, laid, one_value}
use denote.Hole.Fix.{over}
use denote.Param.Weighed.{Weighed}
use denote.Model.Placed.{view_places}
use Rattle.std.specs.declared.boxed.Box.{Box}
use Rattle.std.specs.contracts.boxed.Box as box
use Rattle.std.specs.declared.alloc.Global.{Global}
use Rattle.std.specs.contracts.alloc.Global as heap
use Rattle.std.specs.contracts.impls.GlobalAllocator.TheImpl.{ghosts}
use Rattle.sdb_base.specs.declared.boxed.Boxed.TheInside.{Inside}
use Rattle.sdb_base.specs.declared.boxed.Boxed.TheView.{view, invariant}
use Rattle.sdb_base.specs.contracts.boxed.Boxed as row
use Rattle.sdb_base.specs.contracts.boxed.Boxed.TheInside as inside

-- a box is seen as the value in it
abbrev pub the_former : Former {0} → Former {0}
the_former value = value

-- a box weighs what its value weighs
abbrev pub the_weighed : {value : Former {0}} → Weighed value → Weighed (the_former value)
the_weighed weight = weight

-- the one field, a `Box`: where the value lies, by which allocator, and the value
abbrev stored : Former {0}
stored = via (pair (const (Ptr × Global)) this) Inside (λ X it. ((it.inner.ptr, it.inner.alloc), it.inner.value))
    (λ X v. record { inner = record { ptr = v.0.0; alloc = v.0.1; value = v.1 } }) (λ X it. refl) (λ X v. refl)

-- the same box with another value in it
abbrev holding : {X Y : Type 0} → Box X Global → Y → Box Y Global
holding b y = record { ptr = b.ptr; alloc = b.alloc; value = y }

-- what is known of a type in a box
abbrev box_row : RattleType → RattleType
box_row R = box.the_row R heap.the_row ghosts

module _ (R S : RattleType) (h : R.Denot → S.Denot) where
  box_places : Alike R S h → Alike (box_row R) (box_row S) (λ b. holding b (h b.value))
  unfolding part_of
  box_places alike = record {
    mir_same = λ i. (box_row (one_value R (alike.mir_same i) (λ _. ftrue) (λ _ _. nothing) gnil)).mir;
    own_same = λ b i. (box_row (one_value R (alike.mir_same i) (alike.own_same b.value i) (alike.shr_same b.value i) gnil)).own_val (holding b tt);
    shr_same = λ b i. (box_row (one_value R (alike.mir_same i) (alike.own_same b.value i) (alike.shr_same b.value i) gnil)).shr_at (holding b tt);
  }

  pub the_places : Alike R S h → Alike (row.the_row R) (row.the_row S) ((the_former this).map R.Denot S.Denot h)
  the_places alike =
      let fields = struct_places (inside.the_type R) (inside.the_type S) ((λ b. holding b (h b.value)), tt) _ (λ b. refl) refl (laid _ _ _ (box_places alike), tt) in
      view_places stored this view (λ X Y k it. refl) (λ X it. refl) R.Denot S.Denot h (row.the_row R).coded (row.the_row S).coded
      (invariant R.Denot) (invariant S.Denot) (λ it p q. refl) (λ it p q. refl) (λ it e. tt) (λ it e. tt)
      (over (inside.the_row R)) (over (inside.the_row S)) fields

  pub the_codes_placed : Recodes R S h → Recodes (row.the_row R) (row.the_row S) ((the_former this).map R.Denot S.Denot h)
  the_codes_placed recodes value = recodes value
