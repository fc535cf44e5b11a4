use Rattle.std.proofs.Common.{◌≡◌, ℕ, take, refl, ap, sym, ◌∙◌, subst}
use Rattle.std.specs.List.{position}
use Rattle.sdb_io.specs.Links.{closed_after}
use Rattle.sdb_io.specs.Playback.{Played, stage_in, is_opened, given_of, left_of, after_front}
use Rattle.sdb_io.proofs.ClosingLemmas.{Recorded, Recorded-set, closing-same, closing-other, closing-none, position-none}
use Rattle.sdb_io.proofs.links.playback.Playback.close.Goals as goal

recorded : (c : goal.After-put) → Recorded c.args.conn c.self.inside.steps.items c.put.new.steps.items c.self.inside.at c.self.inside.used c.self.inside.last
recorded c =
    subst (λ xs. Recorded c.args.conn c.self.inside.steps.items xs c.self.inside.at c.self.inside.used c.self.inside.last) (sym c.put.ensures)
    (Recorded-set c.args.conn c.self.inside.steps.items c.self.inside.at c.self.inside.used c.self.inside.last c.in-Some.place c.new.result c.new.ensures c.self.invariant
    (ap (λ xs. position (is_opened c.args.conn) (take c.self.inside.at xs)) (sym c.deref.ensures.value) ∙ sym c.opened_at.ensures ∙ c.in-Some.is))

pub invariant_of-self : goal.invariant_of-self
invariant_of-self c = (recorded c).played

pub returns-in-Some-clause-to_come : goal.returns-in-Some-clause-to_come
returns-in-Some-clause-to_come c =
    subst (λ (v : Played). after_front c.self.inside.used (left_of c.put.new.steps.items c.self.inside.at) ≡ v.to_come) c.self.view_is
    (ap (after_front c.self.inside.used) (recorded c).left)

pub returns-in-Some-clause-stage : goal.returns-in-Some-clause-stage
returns-in-Some-clause-stage c =
    subst (λ (v : Played). stage_in (given_of c.put.new.steps.items c.self.inside.at) c.args.conn ≡ closed_after (stage_in v.given c.args.conn)) c.self.view_is
    ((recorded c).stage c.args.conn ∙ closing-same c.args.conn (stage_in (given_of c.self.inside.steps.items c.self.inside.at) c.args.conn))

pub returns-in-Some-clause-others : goal.returns-in-Some-clause-others
returns-in-Some-clause-others c = λ k other.
    subst (λ (v : Played). stage_in (given_of c.put.new.steps.items c.self.inside.at) k ≡ stage_in v.given k) c.self.view_is
    ((recorded c).stage k ∙ closing-other c.args.conn k (stage_in (given_of c.self.inside.steps.items c.self.inside.at) k) other)

pub returns-in_default-clause-stage : goal.returns-in_default-clause-stage
returns-in_default-clause-stage c =
    subst (λ (v : Played). stage_in v.given c.args.conn ≡ closed_after (stage_in v.given c.args.conn)) c.self.view_is
    (closing-none c.args.conn (take c.self.inside.at c.self.inside.steps.items) (position-none c.args.conn (take c.self.inside.at c.self.inside.steps.items)
    (ap (λ xs. position (is_opened c.args.conn) (take c.self.inside.at xs)) (sym c.deref.ensures.value) ∙ sym c.opened_at.ensures ∙ c.in_default.is)))
