use Rattle.std.proofs.Common.{Err, ap, inl, inr, refl}
use Rattle.sdb_replay.proofs.StartLemmas.{right_throughout}
use Rattle.sdb_serve.proofs.HostLemmas.{not-disk, not-keys, not-read, not-usage, not-write}
use Rattle.sdb_serve.proofs.ServingLemmas.{told-along}
use Rattle.sdb_serve.specs.Hosting.{Hosts, Listens, NotBound}
use Rattle.sdb_serve.proofs.hosting.serve.Goals as goal

pub returns-in-Ok-clause-attends : goal.returns-in-Ok-clause-attends
returns-in-Ok-clause-attends g c =
    let ran = c.in-Ok.ensures in
    inr (
      c.in-Ok.core.keys,
      ran.keys,
      elim c.listen.ensures.listens [
        | inl none ↦ inl (none.0, λ told f left. ran.images told f (none.1 _ f left))
        | inr hosts ↦ inr (λ told accounts number each.
            let since = hosts (told-along _ _ ran.told told) _ (ran.stands told accounts number each) ran.empty.2 in
            record {
              moment = (g.D.Disk.state c.open.new.disk).moment;
              faults = (g.D.Disk.state c.open.new.disk).faults;
              later = ran.later;
              hosts = since;
              opened = ran.time.later;
              during = right_throughout _ _ _ c.in-Ok.core.keys accounts number _ told each ran.images ran.time c.listen.ensures.time since.served.serving.stands.crash;
            })
      ],
    )

pub returns-in-Ok-clause-sure : goal.returns-in-Ok-clause-sure
returns-in-Ok-clause-sure g c = λ told accounts number each file is.
    let ran = c.in-Ok.ensures in
    c.listen.ensures.sure (told-along _ _ ran.told told) _ (ran.stands told accounts number each) ran.empty.2 file is

pub returns-in-Ok-clause-bad_keys : goal.returns-in-Ok-clause-bad_keys
returns-in-Ok-clause-bad_keys g c = λ line is. absurd (not-keys c.listen.result line c.listen.ensures.of_server is)

pub returns-in-Ok-clause-read : goal.returns-in-Ok-clause-read
returns-in-Ok-clause-read g c = λ is. absurd (not-read c.listen.result c.listen.ensures.of_server is)

pub returns-in-Ok-clause-disk : goal.returns-in-Ok-clause-disk
returns-in-Ok-clause-disk g c = λ is. absurd (not-disk c.listen.result c.listen.ensures.of_server is)

pub returns-in-Ok-clause-write : goal.returns-in-Ok-clause-write
returns-in-Ok-clause-write g c = λ is. not-write c.listen.result c.listen.ensures.of_server is

pub returns-in-Ok-clause-usage : goal.returns-in-Ok-clause-usage
returns-in-Ok-clause-usage g c = λ is. not-usage c.listen.result c.listen.ensures.of_server is

pub returns-in-Err-clause-attends : goal.returns-in-Err-clause-attends
returns-in-Err-clause-attends g c = inl (c.in-Err.ensures.err, c.in-Err.ensures.images, refl)

pub returns-in-Err-clause-sure : goal.returns-in-Err-clause-sure
returns-in-Err-clause-sure g c = λ told accounts number each file is. c.in-Err.ensures.sure told accounts number each file (ap Err is)

pub returns-in-Err-clause-bad : goal.returns-in-Err-clause-bad
returns-in-Err-clause-bad g c = λ file is. c.in-Err.ensures.bad file (ap Err is)
