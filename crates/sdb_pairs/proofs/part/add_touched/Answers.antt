use Rattle.std.proofs.Common.{◌∙◌, sym, ap, refl, length, true≢false}
use Rattle.std.specs.Bool.{◌==◌}
use Rattle.std.specs.Option.{option_copied}
use Rattle.sdb_pairs.specs.Parts.{there}
use Rattle.sdb_pairs.proofs.part.add_touched.Goals as goal

pub returns-then-not-is_empty : goal.returns-then-not-is_empty
returns-then-not-is_empty c =
    there c.in-Some.name.now (sym c.name_of.ensures ∙ ap option_copied c.in-Some.is)
    (λ e. true≢false (sym (sym c.if-not-is_empty.true ∙ c.is_empty.ensures ∙ ap (λ l. length l == 0) (c.values.ensures ∙ e))))
    refl
