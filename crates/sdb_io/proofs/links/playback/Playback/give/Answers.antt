use Rattle.std.proofs.Common.{◌≡◌, ℕ, ◌+◌, ◌<◌, ◌≤◌, length, refl, ap, sym, ◌∙◌, subst, arith}
use Rattle.sdb_io.specs.declared.links.LinkEvent.TheVariants as event
use Rattle.sdb_io.specs.Links.{opens, gives, ends, closes, stages_after, Gives, unopened}
use Rattle.sdb_io.specs.Playback.{Played, step_of, stage_in, given_of, left_of, after_front}
use Rattle.sdb_io.proofs.PlaybackLemmas.{Goes, Goes-next, Goes-here, Copied, Copied-from, length-rest, goes-opens, goes-ends, goes-closes, goes-gives, goes-part, IsPlayed-next}
use Rattle.sdb_io.proofs.links.playback.Playback.give.Goals as goal

-- what an Opened leaves
opened_goes : (c : goal.After-self-in-Opened-1) → Goes (event.Opened c.in-Opened.conn) c.args.buf.now c.self.inside.last
    (given_of c.self.inside.steps.items c.self.inside.at) (after_front c.self.inside.used (left_of c.self.inside.steps.items c.self.inside.at))
    c.self.inside.used c.in-Opened.conn (given_of c.self.inside.steps.items (c.self.inside.at + 1)) (left_of c.self.inside.steps.items (c.self.inside.at + 1))
opened_goes c =
    Goes-next c.self.inside.steps.items c.self.inside.at c.self.inside.used c.self.inside.last c.index.result.now (opens c.in-Opened.conn) (event.Opened c.in-Opened.conn)
    c.args.buf.now c.self.inside.used c.in-Opened.conn c.self.invariant (omega arith) c.index.ensures (ap step_of c.in-Opened.is)
    (goes-opens c.args.buf.now c.self.inside.used c.self.inside.last c.in-Opened.conn _ _)

pub invariant_of-self : goal.invariant_of-self
invariant_of-self c = IsPlayed-next _ _ _ _ _ _ _ _ _ (omega arith) (opened_goes c)

pub returns-in-Opened-clause-unopened : goal.returns-in-Opened-clause-unopened
returns-in-Opened-clause-unopened c = subst (λ (v : Played). stage_in v.given c.in-Opened.conn ≡ unopened) c.self.view_is (opened_goes c).unopened

pub returns-in-Opened-clause-stage : goal.returns-in-Opened-clause-stage
returns-in-Opened-clause-stage c = λ k.
    subst (λ (v : Played). stage_in (given_of c.self.inside.steps.items (c.self.inside.at + 1)) k ≡ stages_after (event.Opened c.in-Opened.conn) (stage_in v.given) k)
    c.self.view_is ((opened_goes c).stage k)

-- what a front of a Piece leaves
part_goes : (c : goal.After-self-then-count-left-1) → Goes (event.Piece c.in-Piece.conn c.copy_front-count.result) c.copy_front-count.new.to c.self.inside.last
    (given_of c.self.inside.steps.items c.self.inside.at) (after_front c.self.inside.used (left_of c.self.inside.steps.items c.self.inside.at))
    (c.self.inside.used + c.copy_front-count.result) c.self.inside.last (given_of c.self.inside.steps.items c.self.inside.at) (left_of c.self.inside.steps.items c.self.inside.at)
part_goes c =
    Goes-here c.self.inside.steps.items c.self.inside.at c.self.inside.used c.self.inside.last c.index.result.now (gives c.in-Piece.conn c.in-Piece.bytes.bytes)
    (event.Piece c.in-Piece.conn c.copy_front-count.result) c.copy_front-count.new.to (c.self.inside.used + c.copy_front-count.result)
    c.self.invariant (omega arith) c.index.ensures (ap step_of c.in-Piece.is)
    (λ story front up. goes-part c.copy_front-count.new.to c.self.inside.used c.self.inside.last c.in-Piece.conn c.copy_front-count.result c.in-Piece.bytes.bytes _ _ story up
    (Copied-from c.copy_front-count.result c.self.inside.used c.in-Piece.bytes.bytes c.as_slice.result.now c.args.buf.now c.copy_front-count.new.to
    c.as_slice.ensures c.copy_front-count.ensures.count c.copy_front-count.ensures.copied c.copy_front-count.auto.to)
    (omega (arith, length-rest c.self.inside.used c.in-Piece.bytes.bytes c.as_slice.result.now c.as_slice.ensures)))

pub returns-then-count-left-clause-given : goal.returns-then-count-left-clause-given
returns-then-count-left-clause-given c =
    subst (λ (v : Played). Gives (event.Piece c.in-Piece.conn c.copy_front-count.result) c.copy_front-count.new.to v.to_come
    (after_front (c.self.inside.used + c.copy_front-count.result) (left_of c.self.inside.steps.items c.self.inside.at))) c.self.view_is (part_goes c).gives

-- what the last bytes of a Piece leave
piece_goes : (c : goal.After-self-in-Piece-2-1) → Goes (event.Piece c.in-Piece.conn c.copy_front-count.result) c.copy_front-count.new.to c.self.inside.last
    (given_of c.self.inside.steps.items c.self.inside.at) (after_front c.self.inside.used (left_of c.self.inside.steps.items c.self.inside.at))
    0 c.self.inside.last (given_of c.self.inside.steps.items (c.self.inside.at + 1)) (left_of c.self.inside.steps.items (c.self.inside.at + 1))
piece_goes c =
    Goes-next c.self.inside.steps.items c.self.inside.at c.self.inside.used c.self.inside.last c.index.result.now (gives c.in-Piece.conn c.in-Piece.bytes.bytes)
    (event.Piece c.in-Piece.conn c.copy_front-count.result) c.copy_front-count.new.to 0 c.self.inside.last
    c.self.invariant (omega arith) c.index.ensures (ap step_of c.in-Piece.is)
    (λ story front up. goes-gives c.copy_front-count.new.to c.self.inside.used c.self.inside.last c.in-Piece.conn c.copy_front-count.result c.in-Piece.bytes.bytes _ _ story up
    (Copied-from c.copy_front-count.result c.self.inside.used c.in-Piece.bytes.bytes c.as_slice.result.now c.args.buf.now c.copy_front-count.new.to
    c.as_slice.ensures c.copy_front-count.ensures.count c.copy_front-count.ensures.copied c.copy_front-count.auto.to)
    (omega (arith, length-rest c.self.inside.used c.in-Piece.bytes.bytes c.as_slice.result.now c.as_slice.ensures)))

pub returns-else-count-left-clause-given : goal.returns-else-count-left-clause-given
returns-else-count-left-clause-given c =
    subst (λ (v : Played). Gives (event.Piece c.in-Piece.conn c.copy_front-count.result) c.copy_front-count.new.to v.to_come
    (after_front 0 (left_of c.self.inside.steps.items (c.self.inside.at + 1)))) c.self.view_is (piece_goes c).gives

pub returns-else-count-left-clause-stage : goal.returns-else-count-left-clause-stage
returns-else-count-left-clause-stage c = λ k.
    subst (λ (v : Played). stage_in (given_of c.self.inside.steps.items (c.self.inside.at + 1)) k ≡ stage_in v.given k) c.self.view_is ((piece_goes c).stage k)

pub returns-in-Ended-clause-stage : goal.returns-in-Ended-clause-stage
returns-in-Ended-clause-stage c = λ k.
    subst (λ (v : Played). stage_in (given_of c.self.inside.steps.items (c.self.inside.at + 1)) k ≡ stage_in v.given k) c.self.view_is
    ((Goes-next c.self.inside.steps.items c.self.inside.at c.self.inside.used c.self.inside.last c.index.result.now (ends c.in-Ended.conn) (event.Ended c.in-Ended.conn)
    c.args.buf.now c.self.inside.used c.self.inside.last c.self.invariant (omega arith) c.index.ensures (ap step_of c.in-Ended.is)
    (goes-ends c.args.buf.now c.self.inside.used c.self.inside.last c.in-Ended.conn _ _)).stage k)

pub returns-in-Closed-clause-stage : goal.returns-in-Closed-clause-stage
returns-in-Closed-clause-stage c = λ k.
    subst (λ (v : Played). stage_in (given_of c.self.inside.steps.items (c.self.inside.at + 1)) k ≡ stage_in v.given k) c.self.view_is
    ((Goes-next c.self.inside.steps.items c.self.inside.at c.self.inside.used c.self.inside.last c.index.result.now closes event.Closed
    c.args.buf.now c.self.inside.used c.self.inside.last c.self.invariant (omega arith) c.index.ensures (ap step_of c.in-Closed.is)
    (goes-closes c.args.buf.now c.self.inside.used c.self.inside.last _ _)).stage k)
