use Rattle.std.proofs.Common.{◌≡◌, ◌∙◌, ◌++◌, ap, refl, length, List, ℕ, arith}
use Rattle.sdb_http.specs.Inside.{before_by, held_from}
use Rattle.sdb_http.proofs.InsideLemmas.{push_steps, state_push}
use Rattle.sdb_http.proofs.feed.Feed.append.Goals as goal

pub invariant_of-self-2 : goal.invariant_of-self-2
invariant_of-self-2 c =
    let it = c.self.inside in
    let left = c.compact-front.new.bytes in
    let counted : c.len.result ≡ length it.bytes.items = omega (arith, c.len.ensures, it.bytes.ok.0) in
    let sized : c.len-len.result ≡ length left.items = omega (arith, c.len-len.ensures, left.ok.0) in
    let same = c.compact-front.ensures.held ∙ ap (λ (all : List ℕ). held_from all it.front) c.in_ok-reserve.ensures.items in
    let joins : c.extend_from_slice.new.self.items ≡ left.items ++ c.kept_part-fresh.result.now = c.extend_from_slice.ensures.items ∙ rw c.unwrap.ensures refl in
    (push_steps it.bytes.items left.items c.args.piece.now _ _ it.front c.compact-front.result _ _ c.self.invariant.at_front c.compact-front.ensures.at_front same counted c.kept_part-fresh.ensures sized joins).feed

pub returns-clause-ok : goal.returns-clause-ok
returns-clause-ok c =
    let it = c.self.inside in
    let left = c.compact-front.new.bytes in
    let counted : c.len.result ≡ length it.bytes.items = omega (arith, c.len.ensures, it.bytes.ok.0) in
    let sized : c.len-len.result ≡ length left.items = omega (arith, c.len-len.ensures, left.ok.0) in
    let same = c.compact-front.ensures.held ∙ ap (λ (all : List ℕ). held_from all it.front) c.in_ok-reserve.ensures.items in
    let joins : c.extend_from_slice.new.self.items ≡ left.items ++ c.kept_part-fresh.result.now = c.extend_from_slice.ensures.items ∙ rw c.unwrap.ensures refl in
    let p = push_steps it.bytes.items left.items c.args.piece.now _ _ it.front c.compact-front.result _ _ c.self.invariant.at_front c.compact-front.ensures.at_front same counted c.kept_part-fresh.ensures sized joins in
    rw (← c.self.view_is) (state_push it.bytes.items c.args.piece.now c.extend_from_slice.new.self.items it.front c.compact-front.result c.len-len.result it.ended (before_by it.bytes.items it.mark) c.if-self.false p)
