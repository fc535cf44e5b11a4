use Rattle.std.proofs.Common.{◌∙◌, sym, ap}
use Rattle.std.specs.Map.{set_value}
use Rattle.std.specs.BTreeMap.{is_at}
use Rattle.std.proofs.lemmas.Map.Steps.{set_value_same}
use Rattle.std.proofs.lemmas.Cmp.{nat_list_cmp_total}
use Rattle.sdb_base.specs.Texts.{text_cmp}
use Rattle.sdb_pairs.specs.Parts.{exchanged}
use Rattle.sdb_domain.proofs.EntryViews.{insert_there}
use Rattle.sdb_domain.proofs.held.exchange.Goals as goal

pub returns-in-Ok-clause-ok : goal.returns-in-Ok-clause-ok
returns-in-Ok-clause-ok c = record {
  row = c.in-Some.item.now;
  was_there = sym c.in-Some.ensures.value;
  made = ap (set_value (is_at (text_cmp c.args.name.now)) c.args.rows.now) c.in-Ok.ensures.ok
      ∙ sym (insert_there nat_list_cmp_total c.args.rows.now c.args.name.now (exchanged c.in-Some.item.now c.args.out c.args.put) c.in-Some.item.now c.get_mut.ensures.rising (sym c.in-Some.ensures.value));
  out_is = c.in-Ok.ensures.out;
  put_is = c.in-Ok.ensures.put;
  room = c.in-Ok.ensures.room;
}

pub returns-in-Err-clause-err : goal.returns-in-Err-clause-err
returns-in-Err-clause-err c =
    ap (set_value (is_at (text_cmp c.args.name.now)) c.args.rows.now) c.in-Err.ensures.err
    ∙ set_value_same (is_at (text_cmp c.args.name.now)) c.args.rows.now c.in-Some.item.now (sym c.in-Some.ensures.value)
