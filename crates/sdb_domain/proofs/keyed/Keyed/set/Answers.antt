use Rattle.std.proofs.Common.{◌∙◌, sym, ap}
use Rattle.std.specs.Map.{set_value}
use Rattle.std.specs.BTreeMap.{is_at}
use Rattle.std.proofs.lemmas.Cmp.{nat_list_cmp_total}
use Rattle.sdb_base.specs.Texts.{text_cmp}
use Rattle.sdb_domain.proofs.EntryViews.{insert_there}
use Rattle.sdb_domain.proofs.keyed.Keyed.set.Goals as goal

pub returns-in-Some-clause-ok : goal.returns-in-Some-clause-ok
returns-in-Some-clause-ok g c =
    ap (set_value (is_at (text_cmp c.args.key.now)) c.args.self.now) c.replace.ensures.after
    ∙ sym (insert_there nat_list_cmp_total c.args.self.now c.args.key.now c.args.value c.in-Some.held.now c.get_mut.ensures.rising (sym c.in-Some.ensures.value))
