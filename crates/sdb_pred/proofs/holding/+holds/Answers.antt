use Rattle.std.proofs.Common.{◌∙◌}
use Rattle.sdb_parse.specs.Meaning.{holds, sole}
use Rattle.sdb_pred.specs.Items.{values_in}
use Rattle.sdb_pred.proofs.LoopLemmas.{part_by_pairs}
use Rattle.sdb_pred.proofs.holding.+holds.Goals as goal

pub part_holds-returns-in-Some : goal.part_holds-returns-in-Some
part_holds-returns-in-Some t c =
    c.some_value_fits_all.ensures
    ∙ part_by_pairs c.args.members.now (sole c.args.member.now) c.in-Some.attr.now c.args.name.now (holds c.args.member.now c.args.name.now (values_in c.args.item.now)) c.values.result.now c.args.item.now c.in-Some.ensures c.values.ensures
