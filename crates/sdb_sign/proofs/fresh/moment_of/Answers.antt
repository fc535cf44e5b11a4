use Rattle.sdb_sign.proofs.fresh.moment_of.Goals as goal

pub returns-in-Err : goal.returns-in-Err
returns-in-Err c = λ seconds is. let same = (c.in-Err.ensures.moment seconds).1 is in absurd cc
