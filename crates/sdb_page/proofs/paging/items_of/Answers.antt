use Rattle.std.proofs.Common.{◌≡◌, map, subst}
use Rattle.std.specs.Result.{IfOk}
use Rattle.sdb_page.specs.Seen.{seen_entry}
use Rattle.sdb_page.proofs.ShownLemmas.{shown_items}
use Rattle.sdb_page.proofs.paging.items_of.Goals as goal

pub returns-in-All : goal.returns-in-All
returns-in-All c = subst (λ shown. IfOk c.show_all.result (λ items. items ≡ shown)) (shown_items c.args.output.now (map seen_entry c.args.rows.now) c.in-All.is) c.show_all.ensures
