use Rattle.std.proofs.Common.{◌<◌, [], ◌∷◌, ◌++◌, IsTrue, length, sym, ap, subst}
use Rattle.sdb_record.specs.Stands.{journal_of}
use Rattle.sdb_journal.specs.Places.{IsAt}
use Rattle.sdb_journal.proofs.AppendLemmas.{gate_there}
use Rattle.sdb_store_tests.proofs.journal.make.Goals as goal

pub append-requires-clause-within : goal.append-requires-clause-within
append-requires-clause-within g c told =
    let done = c.in_ok-journal.ensures.done in
    let journal = c.in_ok-journal.journal in
    let seen = (g.D.Disk.state c.create.new.disk).seen in
    subst (λ k. journal.gate < length (seen k)) (sym (ap journal_of done.generation_is)) (gate_there journal [] (seen 2) (done.at (subst IsTrue c.create.ensures.told told)))

pub append-requires-2-clause-within : goal.append-requires-2-clause-within
append-requires-2-clause-within g c told =
    let before = subst IsTrue c.append.ensures.told told in
    let done = c.in_ok-journal.ensures.done in
    let journal = c.in_ok-journal.journal in
    let after = c.append.new.self in
    let own = ap journal_of done.generation_is in
    let appended = c.in_ok-append.ensures.done before []
    (subst (λ k. IsAt journal [] ((g.D.Disk.state c.create.new.disk).seen k)) (sym own) (done.at (subst IsTrue c.create.ensures.told before))) in
    let seen = (g.D.Disk.state c.append.new.disk).seen in
    subst (λ k. after.gate < length (seen k)) (sym (ap journal_of c.in_ok-append.ensures.same_journal.0)) (gate_there after _ (seen (journal_of journal.generation)) appended.at)
