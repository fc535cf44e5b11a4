use Rattle.std.proofs.Common.{◌≡◌, refl}
use Rattle.sdb_keys.proofs.Whole.{none_is_unknown, some_is_known}
use Rattle.sdb_keys.proofs.keys.Keys.find.Goals as goal

pub returns-in_err-key-clause-none : goal.returns-in_err-key-clause-none
returns-in_err-key-clause-none c =
    rw c.from_residual.ensures (λ _. none_is_unknown c.args.self.now c.args.id.now c.in_err-key.ensures, λ _. refl)

pub returns-clause-none : goal.returns-clause-none
returns-clause-none c =
    let known = some_is_known c.args.self.now c.args.id.now c.in_ok-key.key.now c.in_ok-key.ensures in
    (λ never. absurd cc, λ unknown. absurd (unknown known))
