use Rattle.sdb_core.proofs.StoryLemmas.{starts}
use Rattle.sdb_core.proofs.the_core.Core.start.Goals as goal

pub returns-in-Some-clause-begins : goal.returns-in-Some-clause-begins
returns-in-Some-clause-begins g c told =
    let store = c.in-Ok.store in record {
      stood = c.in-Ok.ensures.value told;
      stands = starts c.args.keys c.in-Some.table c.in-Some.line store (g.D.Disk.state c.start.new.disk) store.accounts store.journal.sequence
          c.in-Some.ensures.0 c.in-Some.ensures.1 c.in-Ok.ensures.sound c.in-Ok.ensures.pending (c.in-Ok.ensures.keeps told) (g.met.D.Disk.only_now c.start.new.disk);
    }

pub returns-in-Some-clause-kept : goal.returns-in-Some-clause-kept
returns-in-Some-clause-kept g c told accounts number stood =
    starts c.args.keys c.in-Some.table c.in-Some.line c.in-Ok.store (g.D.Disk.state c.start.new.disk) accounts number
    c.in-Some.ensures.0 c.in-Some.ensures.1 c.in-Ok.ensures.sound c.in-Ok.ensures.pending (c.in-Ok.ensures.kept told accounts number stood) (g.met.D.Disk.only_now c.start.new.disk)
