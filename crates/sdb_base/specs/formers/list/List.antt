-- How a `List` stores its members, so that a type may hold a list of itself.
use mathlib.Core.Path.{◌≡◌, refl, sym}
use mathlib.Core.List.{List as Members, []}
use mathlib.Core.Former.{Former, this, list, via, children}
use base.Stored.{code_map}
use denote.RattleType.{RattleType}
use denote.HoleLaws.{Alike}
use denote.HolePlaces.{Recodes, struct_places, laid}
use denote.Hole.Carrier.{listed, list-listed}
use denote.Hole.Fix.{over}
use denote.Param.Weighed.{Weighed, w_list}
use denote.Model.Placed.{view_places}
use Rattle.std.specs.formers.vec.Vec as vec
use Rattle.std.specs.declared.alloc.Global.{Global}
use Rattle.std.specs.contracts.alloc.Global as heap
use Rattle.std.specs.contracts.impls.GlobalAllocator.TheImpl.{ghosts}
use Rattle.sdb_base.specs.declared.list.List.TheInside.{Inside}
use Rattle.sdb_base.specs.declared.list.List.TheView.{view, invariant}
use Rattle.sdb_base.specs.contracts.list.List as row
use Rattle.sdb_base.specs.contracts.list.List.TheInside as inside

-- a list is seen as the list of its members
abbrev pub the_former : Former {0} → Former {0}
the_former member = list member

-- a list weighs what its members weigh
abbrev pub the_weighed : {member : Former {0}} → Weighed member → Weighed (the_former member)
the_weighed weight = w_list weight

-- a list of what has no members is empty
pub the_empty : Members ⊥
the_empty = []

-- the members of a list
abbrev pub the_items : (X : Type 0) → Members X → Members X
the_items X members = members

-- and these are all of them
pub the_items_listed : (X : Type 0) (members : Members X) → listed _ (children (the_former this) X members) ≡ the_items X members
the_items_listed X members = list-listed X members

-- the one field, a `Vec`
abbrev stored : Former {0}
stored = via (vec.the_former this Global) Inside (λ X it. it.inner) (λ X v. record { inner = v }) (λ X it. refl) (λ X v. refl)

module _ (R S : RattleType) (h : R.Denot → S.Denot) where
  pub the_places : Alike R S h → Alike (row.the_row R) (row.the_row S) ((the_former this).map R.Denot S.Denot h)
  the_places alike =
      let fields = struct_places (inside.the_type R) (inside.the_type S) (vec.mapped h, tt) _ (λ members. refl) refl
      (laid _ _ _ (vec.the_places heap.the_row ghosts R S h alike), tt) in
      view_places stored (list this) view (λ X Y k it. refl) (λ X it. refl) R.Denot S.Denot h (row.the_row R).coded (row.the_row S).coded
      (invariant R.Denot) (invariant S.Denot) (λ it p q. refl) (λ it p q. refl) (λ it e. tt) (λ it e. tt)
      (over (inside.the_row R)) (over (inside.the_row S)) fields

  pub the_codes_placed : Recodes R S h → Recodes (row.the_row R) (row.the_row S) ((the_former this).map R.Denot S.Denot h)
  the_codes_placed recodes members = sym (code_map R.coded.code S.coded.code h (λ x. sym (recodes x)) members)
