-- Steps on the slots of an account.
use Rattle.std.proofs.Common.{◌≡◌, ℕ, Bool, true, false, cond, not, List, [], Option, Some, None, Result, Ok, Err, refl, sym, ap, ◌∙◌, subst, unwrap_or, is_eq, is_some, true≢false, IfSome, IsSome, IfOk, OnErr}
use Rattle.std.specs.Map.{set_value, remove_entry}
use Rattle.std.specs.BTreeMap.{is_at, insert_entry}
use Rattle.std.proofs.lemmas.Cmp.{tied_itself, nat_list_cmp_total}
use Rattle.std.proofs.lemmas.Map.Steps.{set_value_same}
use Rattle.sdb_base.specs.Texts.{text_cmp}
use Rattle.sdb_base.specs.Entries.{found, placed, IsRising}
use Rattle.sdb_base.proofs.EntryLemmas.{found-insert, found-placed, rising-placed}
use Rattle.sdb_pairs.specs.declared.change.Change.{Change}
use Rattle.sdb_pairs.specs.declared.change.Change.TheVariants.{MakeDomain, DropDomain, Edit}
use Rattle.sdb_pairs.specs.Accounts.{ItemEntries}
use Rattle.sdb_domain.specs.declared.slot.Moved.{Moved}
use Rattle.sdb_domain.specs.declared.slot.Slot.{Slot}
use Rattle.sdb_domain.specs.declared.slot.Slot.TheVariants.{Settled}
use Rattle.sdb_domain.specs.declared.slot.Step.{Step}
use Rattle.sdb_domain.specs.declared.slot.Step.TheVariants.{Slot as SlotWas, Row}
use Rattle.sdb_domain.specs.Slots.{Slots, shown, domains_shown, stays, IsSettled}
use Rattle.sdb_domain.specs.Steps.{domain_of, items_after, changed, row_step_undone, CanUndoRow, StepsTo, SlotSteps, SlotMoves, Weighs, SlotsStep, SlotsMove, Settles}
use Rattle.sdb_domain.proofs.EntryViews.{back_inserted, insert_there, remove_absent}
use Rattle.sdb_domain.proofs.SeenLemmas.{seen_of, found-seen, rising-seen, seen-put, place_same, seen-removed}

-- ---- options and results

pub some_given : (o : Option ItemEntries) → is_some o ≡ true → o ≡ Some (unwrap_or o [])
some_given None h = absurd (true≢false (sym h))
some_given (Some items) h = refl

pub none_given : (o : Option ItemEntries) → is_some o ≡ false → o ≡ None
none_given None h = refl
none_given (Some items) h = absurd (true≢false h)

pub there_given : (o : Option ItemEntries) → IsSome o → o ≡ Some (unwrap_or o [])
there_given None h = absurd (true≢false (sym h))
there_given (Some items) h = refl

pub ok_weaker : {X E : Type 0} (P Q : X → Type 0) (r : Result X E) → ((x : X) → P x → Q x) → IfOk r P → IfOk r Q
ok_weaker P Q (Ok x) f h = f x h
ok_weaker P Q (Err e) f h = h

pub err_weaker : {X E : Type 0} {P Q : Type 0} (r : Result X E) → (P → Q) → OnErr r P → OnErr r Q
err_weaker (Ok x) f h = h
err_weaker (Err e) f h = f h

-- ---- one slot among all

module _ (old : Slots) (name : List ℕ) (s : IsRising text_cmp old) where
  pub found_shown : (q : List ℕ) (o : Option Slot) → o ≡ found text_cmp old q → found text_cmp (domains_shown old) q ≡ seen_of shown o
  found_shown q o e = found-seen shown old q s ∙ ap (seen_of shown) (sym e)

  found_others : (slot : Slot) (q : List ℕ) → is_at (text_cmp q) name ≡ false → found text_cmp (insert_entry text_cmp old name slot) q ≡ found text_cmp old q
  found_others slot q off = found-insert nat_list_cmp_total old name q slot ∙ ap (λ b. cond b (Some slot) (found text_cmp old q)) off

  found_here : (slot : Slot) → found text_cmp (insert_entry text_cmp old name slot) name ≡ Some slot
  found_here slot = found-insert nat_list_cmp_total old name name slot ∙ ap (λ r. cond (is_eq r) (Some slot) (found text_cmp old name)) (tied_itself nat_list_cmp_total name)

  rises_after : (slot : Slot) → IsRising text_cmp (insert_entry text_cmp old name slot)
  rises_after slot = rising-placed nat_list_cmp_total old name (Some slot) s

  -- what is set there is shown there
  shown_here : (slot : Slot) → found text_cmp (domains_shown (insert_entry text_cmp old name slot)) name ≡ shown slot
  shown_here slot = found-seen shown (insert_entry text_cmp old name slot) name (rises_after slot) ∙ ap (seen_of shown) (found_here slot)

  put_steps : (slot : Slot) (was : Option Slot) → was ≡ found text_cmp old name → StepsTo old (insert_entry text_cmp old name slot) name (shown slot) (SlotWas was)
  put_steps slot was e = record {
    made = seen-put shown old name slot s;
    taken_back = back_inserted old name s slot was e;
    can = tt;
    others = found_others slot;
  }

  -- what stands there, set once more
  place_found : (o : Option ItemEntries) → found text_cmp (domains_shown old) name ≡ o → placed text_cmp (domains_shown old) name o ≡ domains_shown old
  place_found None h = remove_absent (is_at (text_cmp name)) (domains_shown old) h
  place_found (Some items) h = place_same (domains_shown old) name items (rising-seen shown old s) h

  module _ (was slot : Slot) (there : found text_cmp old name ≡ Some was) where
    after : Slots
    after = insert_entry text_cmp old name slot

    in_place : after ≡ set_value (is_at (text_cmp name)) old slot
    unfolding after
    in_place = insert_there nat_list_cmp_total old name slot was s there

    steps_put : (items : Option ItemEntries) (step : Step) → SlotSteps was slot items step → StepsTo old after name items step
    unfolding after
    steps_put items (SlotWas w) steps =
        subst (λ i. StepsTo old (insert_entry text_cmp old name slot) name i (SlotWas w)) steps.shows (put_steps slot w (steps.taken_back ∙ sym there))
    steps_put items (Row settled) steps = record {
      made = seen-put shown old name slot s ∙ ap (placed text_cmp (domains_shown old) name) steps.shows;
      taken_back =
          ap (row_step_undone (insert_entry text_cmp old name slot) name settled) (found_here slot)
          ∙ ap (set_value (is_at (text_cmp name)) (insert_entry text_cmp old name slot)) steps.taken_back.0
          ∙ back_inserted old name s slot (Some was) (sym there);
      can = subst CanUndoRow (sym (found_here slot)) steps.taken_back.1;
      others = found_others slot;
    }

    was_shown : found text_cmp (domains_shown old) name ≡ shown was
    was_shown = found_shown name (Some was) (sym there)

    moved_put : (change : Change) (moved : Moved) → domain_of change ≡ name → SlotSteps was slot (items_after (shown was) change) moved.step → Weighs moved change (shown was) (shown slot) → SlotsStep old after change moved
    unfolding after
    moved_put change moved is steps weighs = record {
      rises = rises_after slot;
      steps =
          subst (λ n. StepsTo old (insert_entry text_cmp old name slot) n (items_after (found text_cmp (domains_shown old) n) change) moved.step) (sym is)
          (subst (λ o. StepsTo old (insert_entry text_cmp old name slot) name (items_after o change) moved.step) (sym was_shown) (steps_put (items_after (shown was) change) moved.step steps));
      weighs =
          subst (λ n. Weighs moved change (found text_cmp (domains_shown old) n) (found text_cmp (domains_shown (insert_entry text_cmp old name slot)) n)) (sym is)
          (subst (λ o. Weighs moved change o (found text_cmp (domains_shown (insert_entry text_cmp old name slot)) name)) (sym was_shown)
          (subst (λ o. Weighs moved change (shown was) o) (sym (shown_here slot)) weighs));
    }

-- ---- by what each step of the code gives

items_stay : (slot : Slot) (change : Change) → stays slot change ≡ true → items_after (shown slot) change ≡ shown slot
items_stay slot (MakeDomain account domain) h = sym (some_given (shown slot) h)
items_stay slot (DropDomain account domain) h = sym (none_given (shown slot) (turned (is_some (shown slot)) h))
  where
    turned : (b : Bool) → not b ≡ true → b ≡ false
    turned true e = absurd (true≢false (sym e))
    turned false e = refl
items_stay slot (Edit account domain item ops) h = absurd (true≢false (sym h))

-- a change of a slot that is there
pub slots_move : (old : Slots) (change : Change) (was slot : Slot) (moved : Option Moved) → IsRising text_cmp old → found text_cmp old (domain_of change) ≡ Some was → SlotMoves was slot change moved
    → SlotsMove old (set_value (is_at (text_cmp (domain_of change))) old slot) change moved
slots_move old change was slot None s there moves =
    let name = domain_of change in
    let shows : found text_cmp (domains_shown old) name ≡ shown was = was_shown old name s was slot there in (
      ap (set_value (is_at (text_cmp name)) old) moves.0 ∙ set_value_same (is_at (text_cmp name)) old was there,
      sym (ap (λ o. placed text_cmp (domains_shown old) name (items_after o change)) shows ∙ ap (placed text_cmp (domains_shown old) name) (items_stay was change moves.1) ∙ place_found old name s (shown was) shows),
    )
slots_move old change was slot (Some moved) s there moves =
    let name = domain_of change in
    subst (λ n. SlotsStep old n change moved) (in_place old name s was slot there) (moved_put old name s was slot there change moved refl moves.0 moves.1)

pub slot_kept : (old : Slots) (name : List ℕ) (was slot : Slot) → found text_cmp old name ≡ Some was → slot ≡ was → set_value (is_at (text_cmp name)) old slot ≡ old
slot_kept old name was slot there same = ap (set_value (is_at (text_cmp name)) old) same ∙ set_value_same (is_at (text_cmp name)) old was there

-- a change of a slot that isn't there
pub slots_new : (old : Slots) (change : Change) (key : List ℕ) (slot : Slot) (moved : Moved) (new : Slots) → IsRising text_cmp old → found text_cmp old (domain_of change) ≡ None → key ≡ domain_of change
    → shown slot ≡ items_after None change → moved.step ≡ SlotWas None → new ≡ insert_entry text_cmp old key slot → Weighs moved change None (shown slot) → SlotsStep old new change moved
slots_new old change key slot moved new s none key_is shows step_is new_is weighs =
    let name = domain_of change in
    let before : found text_cmp (domains_shown old) name ≡ None = found_shown old name s name None (sym none) in
    subst (λ n. SlotsStep old n change moved) (sym (new_is ∙ ap (λ k. insert_entry text_cmp old k slot) key_is)) (record {
      rises = rises_after old name s slot;
      steps =
          subst (StepsTo old (insert_entry text_cmp old name slot) name (items_after (found text_cmp (domains_shown old) name) change)) (sym step_is)
          (subst (λ o. StepsTo old (insert_entry text_cmp old name slot) name o (SlotWas None)) (shows ∙ ap (λ o. items_after o change) (sym before)) (put_steps old name s slot None (sym none)));
      weighs =
          subst (λ o. Weighs moved change o (found text_cmp (domains_shown (insert_entry text_cmp old name slot)) name)) (sym before)
          (subst (λ o. Weighs moved change None o) (sym (shown_here old name s slot)) weighs);
    })

pub slots_none : (old : Slots) (change : Change) → IsRising text_cmp old → found text_cmp old (domain_of change) ≡ None → None ≡ items_after None change → domains_shown old ≡ changed (domains_shown old) change
slots_none old change s none stays =
    let name = domain_of change in
    let before : found text_cmp (domains_shown old) name ≡ None = found_shown old name s name None (sym none) in
    sym (ap (λ o. placed text_cmp (domains_shown old) name (items_after o change)) before ∙ ap (placed text_cmp (domains_shown old) name) (sym stays) ∙ place_found old name s None before)

-- ---- a slot closed

settled_shown : (slots : Slots) (name : List ℕ) (slot : Slot) (items : ItemEntries) → IsRising text_cmp slots → found text_cmp slots name ≡ Some slot → shown slot ≡ Some items
    → domains_shown (insert_entry text_cmp slots name (Settled items)) ≡ domains_shown slots
settled_shown slots name slot items s there shows =
    seen-put shown slots name (Settled items) s
    ∙ place_same (domains_shown slots) name items (rising-seen shown slots s) (found_shown slots name s name (Some slot) (sym there) ∙ shows)

pub settles : (old : Slots) (name : List ℕ) (slot : Slot) (items : ItemEntries) (new : Slots) → IsRising text_cmp old → Some slot ≡ found text_cmp old name → shown slot ≡ Some items
    → new ≡ set_value (is_at (text_cmp name)) old (Settled items) → Settles old new name
settles old name slot items new s there shows new_is =
    let made : new ≡ insert_entry text_cmp old name (Settled items) = new_is ∙ sym (insert_there nat_list_cmp_total old name (Settled items) slot s (sym there)) in
    subst (λ n. Settles old n name) (sym made) (record {
      rises = rising-placed nat_list_cmp_total old name (Some (Settled items)) s;
      shown = settled_shown old name slot items s (sym there) shows;
      settled = subst (λ o. IfSome o IsSettled) (sym (found_here old name s (Settled items))) tt;
      others = found_others old name s (Settled items);
    })

pub settles_none : (old : Slots) (name : List ℕ) (new : Slots) → IsRising text_cmp old → None ≡ found text_cmp old name → new ≡ old → Settles old new name
settles_none old name new s there new_is =
    subst (λ n. Settles old n name) (sym new_is) (record {
      rises = s;
      shown = refl;
      settled = subst (λ o. IfSome o IsSettled) there tt;
      others = λ q off. refl;
    })

pub settles_dropped : (old : Slots) (name : List ℕ) (was slot : Slot) (new : Slots) → IsRising text_cmp old → Some was ≡ found text_cmp old name → shown was ≡ None → slot ≡ was
    → new ≡ remove_entry (is_at (text_cmp name)) (set_value (is_at (text_cmp name)) old slot) → Settles old new name
settles_dropped old name was slot new s there hidden same new_is =
    let made : new ≡ remove_entry (is_at (text_cmp name)) old = new_is ∙ ap (remove_entry (is_at (text_cmp name))) (slot_kept old name was slot (sym there) same) in
    let found_removed : (q : List ℕ) → found text_cmp (remove_entry (is_at (text_cmp name)) old) q ≡ cond (is_at (text_cmp q) name) None (found text_cmp old q) = λ q. found-placed nat_list_cmp_total old name q None s in
    subst (λ n. Settles old n name) (sym made) (record {
      rises = rising-placed nat_list_cmp_total old name None s;
      shown = seen-removed shown old name was (sym there) hidden;
      settled = subst (λ o. IfSome o IsSettled) (sym (found_removed name ∙ ap (λ r. cond (is_eq r) None (found text_cmp old name)) (tied_itself nat_list_cmp_total name))) tt;
      others = λ q off. found_removed q ∙ ap (λ b. cond b None (found text_cmp old q)) off;
    })
