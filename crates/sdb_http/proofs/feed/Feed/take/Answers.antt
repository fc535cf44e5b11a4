use Rattle.std.proofs.lemmas.Result.{IfOk-weaker}
use Rattle.sdb_http.specs.Inside.{taken}
use Rattle.sdb_http.proofs.FeedLemmas.{StandsFor-take, all_taken, keeps-before, work-falls}
use Rattle.sdb_http.proofs.feed.Feed.take.Goals as goal

pub returns-clause-past : goal.returns-clause-past
returns-clause-past c = λ past h.
    IfOk-weaker c.next.result _ _ (λ answer takes. StandsFor-take c.args.self.now c.next.new.self (taken answer) past takes h) c.next.ensures.answer

pub returns-clause-all : goal.returns-clause-all
returns-clause-all c = λ past h.
    IfOk-weaker c.next.result _ _ (λ answer takes. all_taken c.args.self.now c.next.new.self answer past takes h) c.next.ensures.answer

pub returns-clause-progress : goal.returns-clause-progress
returns-clause-progress c =
    IfOk-weaker c.next.result _ _ (λ answer takes. work-falls c.args.self.now c.next.new.self answer takes) c.next.ensures.answer

pub returns-clause-keeps : goal.returns-clause-keeps
returns-clause-keeps c = keeps-before c.args.self.now c.next.new.self c.next.result c.next.ensures.answer c.next.ensures.err
