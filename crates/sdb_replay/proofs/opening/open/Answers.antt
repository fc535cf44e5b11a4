use Rattle.sdb_replay.proofs.opening.open.Goals as goal

pub returns-in-Err-clause-images : goal.returns-in-Err-clause-images
returns-in-Err-clause-images g c =
    λ is_told files left. record { before = files; was = g.met.D.Disk.only_now c.args.disk.now files left; same = λ accounts number stands. stands }
