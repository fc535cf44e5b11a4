use Rattle.std.proofs.Common.{Err, ap, inl, inr}
use Rattle.sdb_replay.proofs.keyed.keys_in.Goals as goal

pub returns-in-Err-Doubled-clause-none : goal.returns-in-Err-Doubled-clause-none
returns-in-Err-Doubled-clause-none c = inr (inl ((c.in-Err-Doubled.ensures.doubled c.in-Err-Doubled.line (λ e. cc)).0 (ap (λ fault. Err fault) c.in-Err-Doubled.field-0-is)))
