use Rattle.sdb_disk.proofs.CallLemmas.{Elapses-refl}
use Rattle.std.proofs.Common.{inl, inr, refl, arith}
use Rattle.sdb_serve.proofs.HostLemmas.{Rose-since, served-sure}
use Rattle.sdb_serve.proofs.hosting.listen.Goals as goal

pub returns-in-Ok-clause-listens : goal.returns-in-Ok-clause-listens
returns-in-Ok-clause-listens g c = inr (λ told o stands out. record {
  bound = g.L.Links.state c.bind.new.self;
  is_bound = record { told = c.in-Ok.ensures.told; last = c.in-Ok.ensures.last; faults = c.in-Ok.ensures.cause.later; binds = c.in-Ok.ensures.ok };
  core = c.drive.new.core;
  served = c.drive.ensures.served told o stands out;
})

pub returns-in-Ok-clause-sure : goal.returns-in-Ok-clause-sure
returns-in-Ok-clause-sure g c = λ told o stands out file is. served-sure c.drive.result file c.args.turns o _ _ c.drive.new.core _ _ _ (c.drive.ensures.served told o stands out) is

pub returns-in-Ok-clause-links : goal.returns-in-Ok-clause-links
returns-in-Ok-clause-links g c = λ is. Rose-since _ _ _ c.in-Ok.ensures.cause.later (c.drive.ensures.fault is)

pub returns-in-Err-clause-listens : goal.returns-in-Err-clause-listens
returns-in-Err-clause-listens g c = inl ((refl, c.in-Err.ensures.err), λ t f left. left)

pub returns-in-Err-clause-time : goal.returns-in-Err-clause-time
returns-in-Err-clause-time g c = Elapses-refl (g.D.Disk.state c.args.disk.now) (λ t f le image. g.met.D.Disk.counts_now c.args.disk.now t f le image) (λ f left. g.met.D.Disk.only_now c.args.disk.now f left)
