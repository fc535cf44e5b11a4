use Rattle.sdb_arrivals.specs.Story.{answer_of, event_of}
use Rattle.sdb_core.proofs.StoryLemmas.{tells}
use Rattle.sdb_core.proofs.the_core.Core.step.Goals as goal

pub returns-clause-story : goal.returns-clause-story
returns-clause-story g c told o story h =
    tells (event_of c.args.event) (answer_of c.advance.result) c.args.self.now c.advance.new.self (g.D.Disk.state c.args.disk.now) (g.D.Disk.state c.advance.new.disk) c.args.items.now c.advance.new.items told c.advance.ensures.steps
    c.advance.ensures.cause c.advance.ensures.time (g.met.D.Disk.only_now c.advance.new.disk) o story h
