use Rattle.std.proofs.Common.{◌≡◌, ◌++◌, ◌∷◌, [], ◌+◌, ◌<◌, Bool, true, false, cond, not, length, get_or, map, take, refl, sym, ap, ◌∙◌, subst, ℕ, List}
use Rattle.std.specs.Cmp.Lexicographic.{slice_cmp}
use Rattle.std.specs.Ordering.{is_eq, nat_cmp}
use Rattle.std.proofs.lemmas.List.{take_more, map-append}
use Rattle.sdb_action.specs.declared.request.PutPair.{PutPair}
use Rattle.sdb_pairs.specs.declared.op.Op.TheVariants.{DropName}
use Rattle.sdb_write.specs.ItemWrites.{put_of}
use Rattle.sdb_write.proofs.OnceLemmas.{AreDropped, is_seen, dropped_none, dropped_again, dropped_new}
use Rattle.sdb_write.proofs.ops.drop_replaced.Goals as goal
use Rattle.sdb_write.proofs.ops.drop_replaced.Goals.{then-pair+in_ok-insert+then-branch+in_ok-copy+in_ok-push, else-pair, else-pair-via-then-pair+in_ok-insert+else-branch, else-pair-via-else-pair}

puts_more : (pairs : List PutPair) (i : ℕ) (pair : PutPair) → i < length pairs → pair ≡ get_or pairs i pair → map put_of (take i pairs) ++ put_of pair ∷ [] ≡ map put_of (take (i + 1) pairs)
puts_more pairs i pair inside at =
    sym (ap (map put_of) (take_more pairs i pair inside ∙ ap (λ p. take i pairs ++ p ∷ []) (sym at)) ∙ map-append put_of (take i pairs) (pair ∷ []))

not_false : (b : Bool) → not b ≡ false → b ≡ true
not_false true e = refl
not_false false e = sym e

not_true : (b : Bool) → not b ≡ true → b ≡ false
not_true true e = sym e
not_true false e = refl

pub loop-pair-preserved : goal.loop-pair-preserved
loop-pair-preserved c =
    let pair = c.pair-item.result in
    let puts = map put_of (take c.loop-pair.pair-index c.args.pairs.now) in
    let seen = c.loop-pair.seen.keys in
    let longer = puts_more c.args.pairs.now c.loop-pair.pair-index pair c.loop-pair-test.true c.pair-item.is in
    let step = subst (λ ps. AreDropped ps c.if-pair.seen.keys c.args.ops.now c.if-pair.ops) longer in
    elim c.if-pair.branch [
      | then-pair+in_ok-insert+then-branch+in_ok-copy+in_ok-push w ↦
          step (dropped_new puts (put_of pair) seen c.if-pair.seen.keys c.args.ops.now c.loop-pair.ops c.if-pair.ops c.loop-pair.invariant w.if-pair.true
          (λ name.
          ap (λ s. is_seen name s.keys) w.seen-is
          ∙ w.in_ok-insert.ensures.updates.0 (record { ref_ptr = (0, 0); now = name })
          ∙ ap (λ k. cond (is_eq (slice_cmp nat_cmp k name)) true (is_seen name seen)) w.as_str.ensures.value)
          (ap (λ k. is_seen k seen) (sym w.as_str.ensures.value) ∙ not_true _ (sym w.in_ok-insert.ensures.added ∙ w.if-branch.true))
          (w.ops-is ∙ w.in_ok-push.ensures.ok ∙ ap (λ name. c.loop-pair.ops ++ DropName name ∷ []) w.in_ok-copy.ensures))
      | else-pair w ↦ elim w.else-pair.branch [
        | else-pair-via-then-pair+in_ok-insert+else-branch v ↦
            step (dropped_again puts (put_of pair) seen c.if-pair.seen.keys c.args.ops.now c.loop-pair.ops c.if-pair.ops c.loop-pair.invariant v.if-pair.true
            (λ name.
            ap (λ s. is_seen name s.keys) (w.seen-is ∙ v.seen-is)
            ∙ v.in_ok-insert.ensures.updates.0 (record { ref_ptr = (0, 0); now = name })
            ∙ ap (λ k. cond (is_eq (slice_cmp nat_cmp k name)) true (is_seen name seen)) v.as_str.ensures.value)
            (ap (λ k. is_seen k seen) (sym v.as_str.ensures.value) ∙ not_false _ (sym v.in_ok-insert.ensures.added ∙ v.if-branch.false))
            w.ops-is)
        | else-pair-via-else-pair v ↦
            step (dropped_none puts (put_of pair) seen c.if-pair.seen.keys c.args.ops.now c.loop-pair.ops c.if-pair.ops c.loop-pair.invariant v.if-pair.false
            (ap (λ s. s.keys) (w.seen-is ∙ v.seen-is))
            w.ops-is)
      ]
    ]
