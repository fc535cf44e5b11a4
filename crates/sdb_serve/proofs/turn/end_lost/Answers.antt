use Rattle.std.proofs.Common.{◌≡◌, ◌≢◌, ℕ, Option, None, Some, inl, inr, refl, sym, ◌∙◌, append-nil, eqb, false, eq-eqb}
use Rattle.std.proofs.lemmas.Bool.{false≢true}
use Rattle.std.specs.Option.{option_eq}
use Rattle.sdb_arrivals.specs.Story.{answer_of}
use Rattle.sdb_serve.proofs.turn.end_lost.Goals as goal

differ : (a b : Option ℕ) → false ≡ option_eq eqb a b → a ≢ b
differ (Some m) (Some n) e is = let same : m ≡ n = cc in false≢true (e ∙ eq-eqb m n same)
differ None None e is = false≢true e
differ (Some m) None e is = cc
differ None (Some n) e is = cc

pub returns-in-Some-clause-steady : goal.returns-in-Some-clause-steady
returns-in-Some-clause-steady g c = record { ready = c.step.ensures.ready; taken = c.step.ensures.counts.taken; last = c.step.ensures.counts.last }

pub returns-in-Some-clause-story : goal.returns-in-Some-clause-story
returns-in-Some-clause-story g c = λ told o story stands.
    let t = c.step.ensures.story told o story stands in
    inr (c.in-Some.conn, answer_of c.step.result, t.came, t.refused, c.in-Some.is, differ c.args.now c.args.before c.if-eq.ensures, t.stands, t.out ∙ append-nil c.args.core.now.line.out)

pub returns-in_default-clause-story : goal.returns-in_default-clause-story
returns-in_default-clause-story g c = λ told o story stands. inl (inr c.in_default.is, stands, refl)

pub returns-in-Some-clause-disk : goal.returns-in-Some-clause-disk
returns-in-Some-clause-disk g c = c.step.ensures.disk refl
