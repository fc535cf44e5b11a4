use Rattle.std.proofs.Common.{◌≡◌, ℕ, ◌+◌, ◌^◌, ◌<◌, ◌++◌, IsTrue, length, drop, sym, ◌∙◌, ap, subst, arith}
use Rattle.sdb_pairs.specs.Changes.{state}
use Rattle.sdb_record.specs.Spelling.{spelling}
use Rattle.sdb_record.specs.Stands.{HasSmallItems}
use Rattle.sdb_store.specs.Frames.{entries_of, group_in, is_frame}
use Rattle.sdb_store.proofs.FrameLemmas.{holds, new_count_fits, grown_group, grown_frame}
use Rattle.sdb_store.proofs.store.Store.stage.Goals as goal

pub overflow_add-self : goal.overflow_add-self
overflow_add-self c =
    let count = c.self.inside.count in
    let frame = c.self.inside.frame.items in
    let new = c.put_entries.new.frame.items in
    let held = holds c.self.inside.count c.self.inside.frame.items c.self.invariant.0 in
    let entries : entries_of c.put_entries.new.frame.items ≡ entries_of c.self.inside.frame.items ++ drop 4 (spelling c.args.changes) =
    c.put_entries.ensures.entries ∙ (λ i. entries_of (c.in_ok-make_room.ensures.same i) ++ (c.entries_in-entries.ensures ∙ ap (drop 4) (c.as_slice.ensures ∙ c.in_ok-bytes.ensures)) i) in
    let size : length c.put_entries.new.frame.items ≡ length c.self.inside.frame.items + length (drop 4 (spelling c.args.changes)) =
    c.put_entries.ensures.size ∙ (λ i. length (c.in_ok-make_room.ensures.same i) + length ((c.entries_in-entries.ensures ∙ ap (drop 4) (c.as_slice.ensures ∙ c.in_ok-bytes.ensures)) i)) in
    let small = subst (λ v. length (spelling (v.pending ++ c.args.changes)) < 2 ^ 32) (sym c.self.view_is) c.requires.fits in
    omega (arith, c.len.ensures, new_count_fits count frame new c.args.changes held c.requires.changes entries size small)

pub invariant_of-self-2 : goal.invariant_of-self-2
invariant_of-self-2 c =
    let count = c.self.inside.count in
    let frame = c.self.inside.frame.items in
    let new = c.put_entries.new.frame.items in
    let held = holds c.self.inside.count c.self.inside.frame.items c.self.invariant.0 in
    let entries : entries_of c.put_entries.new.frame.items ≡ entries_of c.self.inside.frame.items ++ drop 4 (spelling c.args.changes) =
    c.put_entries.ensures.entries ∙ (λ i. entries_of (c.in_ok-make_room.ensures.same i) ++ (c.entries_in-entries.ensures ∙ ap (drop 4) (c.as_slice.ensures ∙ c.in_ok-bytes.ensures)) i) in
    let size : length c.put_entries.new.frame.items ≡ length c.self.inside.frame.items + length (drop 4 (spelling c.args.changes)) =
    c.put_entries.ensures.size ∙ (λ i. length (c.in_ok-make_room.ensures.same i) + length ((c.entries_in-entries.ensures ∙ ap (drop 4) (c.as_slice.ensures ∙ c.in_ok-bytes.ensures)) i)) in
    let small = subst (λ v. length (spelling (v.pending ++ c.args.changes)) < 2 ^ 32) (sym c.self.view_is) c.requires.fits in (
      subst (λ n. IsTrue (is_frame (c.self.inside.count + n) c.put_entries.new.frame.items)) (sym c.len.ensures) (grown_frame count frame new c.args.changes held c.requires.changes entries size small),
      subst HasSmallItems (sym c.in_ok-apply.ensures.ok) (subst (λ v. HasSmallItems (state v.accounts c.args.changes)) (sym c.self.view_is) c.requires.small),
    )

pub returns-clause-pending : goal.returns-clause-pending
returns-clause-pending c =
    let count = c.self.inside.count in
    let frame = c.self.inside.frame.items in
    let new = c.put_entries.new.frame.items in
    let held = holds c.self.inside.count c.self.inside.frame.items c.self.invariant.0 in
    let entries : entries_of c.put_entries.new.frame.items ≡ entries_of c.self.inside.frame.items ++ drop 4 (spelling c.args.changes) =
    c.put_entries.ensures.entries ∙ (λ i. entries_of (c.in_ok-make_room.ensures.same i) ++ (c.entries_in-entries.ensures ∙ ap (drop 4) (c.as_slice.ensures ∙ c.in_ok-bytes.ensures)) i) in
    let size : length c.put_entries.new.frame.items ≡ length c.self.inside.frame.items + length (drop 4 (spelling c.args.changes)) =
    c.put_entries.ensures.size ∙ (λ i. length (c.in_ok-make_room.ensures.same i) + length ((c.entries_in-entries.ensures ∙ ap (drop 4) (c.as_slice.ensures ∙ c.in_ok-bytes.ensures)) i)) in
    let small = subst (λ v. length (spelling (v.pending ++ c.args.changes)) < 2 ^ 32) (sym c.self.view_is) c.requires.fits in
    rw (← c.self.view_is)
    (subst (λ n. group_in (c.self.inside.count + n) c.put_entries.new.frame.items ≡ group_in c.self.inside.count c.self.inside.frame.items ++ c.args.changes) (sym c.len.ensures)
    (grown_group count frame new c.args.changes held c.requires.changes entries size small))
