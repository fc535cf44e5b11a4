use Rattle.std.proofs.Common.{ℕ, List, sym, ◌∙◌, ap, Some, None}
use Rattle.std.specs.Option.{option_copied}
use Rattle.sdb_base.proofs.PairsLemmas.{value_of-found}
use Rattle.sdb_action.proofs.entries.value_named.Goals as goal

pub returns-in_err-part : goal.returns-in_err-part
returns-in_err-part c =
    rw c.from_residual.ensures (value_of-found c.args.parts.now c.args.name.now None (sym (ap option_copied c.in_err-part.was) ∙ c.part_named.ensures))

pub returns : goal.returns
returns c =
    ap (λ (part : List ℕ × List ℕ). Some part.1) c.part.view_is
    ∙ value_of-found c.args.parts.now c.args.name.now (Some c.in_ok-part.part.now) (sym (ap option_copied c.in_ok-part.was) ∙ c.part_named.ensures)
