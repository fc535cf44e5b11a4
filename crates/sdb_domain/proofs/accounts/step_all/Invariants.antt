use Rattle.std.proofs.Common.{◌≡◌, take, length}
use Rattle.sdb_pairs.specs.Changes.{state}
use Rattle.sdb_domain.specs.Slots.{accounts_shown}
use Rattle.sdb_domain.specs.Steps.{Logs}
use Rattle.sdb_domain.proofs.accounts.step_all.Given as goal

abbrev pub invariant-loop-change : goal.invariant-loop-change
invariant-loop-change l =
    (accounts_shown l.accounts ≡ state (accounts_shown l.initial.accounts) (take l.change-index l.changes)) × Logs l.initial.accounts l.initial.log.items l.accounts l.log.items × (length l.accounts ≡ 16)
