use Rattle.std.proofs.Common.{◌∙◌, ap, filter}
use Rattle.std.specs.Option.{option_copied}
use Rattle.std.specs.Bound.{bound_map}
use Rattle.std.specs.BTreeMap.Range.{range_contains}
use Rattle.std.specs.declared.ops.Bound.TheVariants.{Unbounded}
use Rattle.sdb_base.specs.Texts.{text_cmp}
use Rattle.sdb_domain.specs.LookUps.{entries_after}
use Rattle.sdb_domain.proofs.RangeLemmas.{between_after}
use Rattle.sdb_domain.proofs.keyed.Keyed.range_after.Goals as goal

pub returns-clause-entries : goal.returns-clause-entries
returns-clause-entries g c =
    c.range.ensures.between tt
    ∙ ap (λ b. filter (λ e. range_contains text_cmp (bound_map (λ x. x.now) b) Unbounded e.0) c.self.inside.map.entries) c.start_after.ensures
    ∙ between_after c.self.inside.map.entries c.args.after
    ∙ ap (λ es. entries_after es (option_copied c.args.after)) c.self.view_is
