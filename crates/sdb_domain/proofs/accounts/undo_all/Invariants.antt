use Rattle.std.proofs.Common.{◌≡◌, vec_len, length}
use Rattle.sdb_domain.specs.Steps.{CanUndoAll, all_undone}
use Rattle.sdb_domain.specs.Keyed.{unwound}
use Rattle.sdb_domain.proofs.accounts.undo_all.Given as goal

abbrev pub invariant-loop-undo : goal.invariant-loop-undo
invariant-loop-undo l =
    (unwound all_undone l.accounts l.log.items ≡ unwound all_undone l.initial.accounts l.initial.log.items) × CanUndoAll l.accounts l.log.items × (length l.accounts ≡ 16)

abbrev pub decreases-loop-undo : goal.decreases-loop-undo
decreases-loop-undo l = vec_len l.log
