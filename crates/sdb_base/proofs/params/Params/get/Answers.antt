use Rattle.std.proofs.Common.{sym, ◌∙◌, ap, Some, None}
use Rattle.std.specs.Option.{option_copied}
use Rattle.sdb_base.proofs.PairsLemmas.{value_of-found}
use Rattle.sdb_base.proofs.params.Params.get.Goals as goal

pub returns-in_err-pair : goal.returns-in_err-pair
returns-in_err-pair c =
    rw c.from_residual.ensures (value_of-found c.args.self.now c.args.name.now None (sym (ap option_copied c.in_err-pair.was) ∙ c.find.ensures))

pub returns : goal.returns
returns c = value_of-found c.args.self.now c.args.name.now (Some c.in_ok-pair.pair.now) (sym (ap option_copied c.in_ok-pair.was) ∙ c.find.ensures)
