use Rattle.sdb_keys.proofs.Words.{some_space, no_space}
use Rattle.sdb_script.proofs.line.split_at_space.Goals as goal

pub returns-in_err-at : goal.returns-in_err-at
returns-in_err-at c = rw c.from_residual.ensures (no_space c.args.text.now c.in_err-at.ensures)

pub returns : goal.returns
returns c =
    let h = some_space c.args.text.now c.in_ok-at.at c.in_ok-at.ensures in
    rw c.split_at.ensures.back h
