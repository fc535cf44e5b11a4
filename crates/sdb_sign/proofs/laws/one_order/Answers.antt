use Rattle.sdb_sign.proofs.Rising.{rising_only, rising_permutes, rising_rises}
use Rattle.sdb_sign.proofs.laws.one_order.Goals as goal

pub returns : goal.returns
returns c = record { rising = rising_rises; same = rising_permutes; only = rising_only }
