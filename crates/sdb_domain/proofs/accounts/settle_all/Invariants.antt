use Rattle.std.proofs.Common.{◌≡◌, drop, length}
use Rattle.sdb_domain.specs.Slots.{accounts_shown}
use Rattle.sdb_domain.specs.Steps.{AreSettledBut}
use Rattle.sdb_domain.proofs.accounts.settle_all.Given as goal

abbrev pub invariant-loop-undo : goal.invariant-loop-undo
invariant-loop-undo l =
    (accounts_shown l.accounts ≡ accounts_shown l.initial.accounts) × (AreSettledBut l.initial.accounts l.log → AreSettledBut l.accounts (drop l.undo-index l.log)) × (length l.accounts ≡ 16)
