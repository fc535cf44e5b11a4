use Rattle.std.proofs.Common.{◌∙◌, sym, ap, unwrap_or, []}
use Rattle.std.specs.BTreeMap.{is_at}
use Rattle.std.specs.Option.{option_copied_mut}
use Rattle.sdb_base.specs.Texts.{text_cmp}
use Rattle.sdb_base.specs.Entries.{found}
use Rattle.sdb_pairs.specs.Parts.{taken_back}
use Rattle.sdb_domain.specs.Undo.{row_back}
use Rattle.sdb_domain.proofs.EntryViews.{set_absent}
use Rattle.sdb_domain.proofs.held.take_back.Goals as goal

pub returns-in_default : goal.returns-in_default
returns-in_default c =
    sym (set_absent (is_at (text_cmp c.args.name.now)) c.args.rows.now (taken_back (unwrap_or (found text_cmp c.args.rows.now c.args.name.now) []) c.in-Some.exchange)
    (sym c.get_mut.ensures.value ∙ ap option_copied_mut c.in_default.is))
    ∙ ap (row_back c.args.rows.now c.args.name.now) (sym c.in-Some.is)
