use Rattle.std.proofs.Common.{◌∙◌, sym, arith}
use Rattle.std.proofs.lemmas.Map.Lookups.{exact_bytes}
use Rattle.sdb_domain.proofs.names.least_in.Goals as goal

pub returns-in-Equal : goal.returns-in-Equal
returns-in-Equal c =
    (omega arith, omega arith, sym c.name_of_first.ensures ∙ exact_bytes c.name_of_first.result.now c.name_of_first-in_default.result.now (sym c.in-Equal.ensures) ∙ c.name_of_first-in_default.ensures)
