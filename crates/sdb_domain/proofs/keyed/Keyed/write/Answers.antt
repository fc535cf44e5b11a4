use Rattle.std.proofs.Common.{◌∙◌, sym, ap}
use Rattle.std.specs.BTreeMap.{is_at}
use Rattle.std.specs.Option.{option_copied_mut}
use Rattle.sdb_base.specs.Texts.{text_cmp}
use Rattle.sdb_domain.proofs.EntryViews.{none_from, set_absent}
use Rattle.sdb_domain.proofs.keyed.Keyed.write.Goals as goal

pub returns-in_default : goal.returns-in_default
returns-in_default g c =
    sym (set_absent (is_at (text_cmp c.args.key.now)) c.args.self.now c.args.value (sym c.get_mut.ensures.value ∙ ap option_copied_mut (none_from c.get_mut.result c.in_default.not-Some)))
