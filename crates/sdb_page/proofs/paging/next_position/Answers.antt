use Rattle.std.proofs.Common.{◌∙◌, sym, ap, Some, None, map, option_map}
use Rattle.std.proofs.lemmas.Bool.{cond-true}
use Rattle.sdb_token.specs.declared.position.Position.{Position}
use Rattle.sdb_page.specs.Pages.{last_place}
use Rattle.sdb_page.specs.Seen.{seen_entry}
use Rattle.sdb_page.specs.Selects.{position_at}
use Rattle.sdb_page.proofs.CutLemmas.{last_place-map}
use Rattle.sdb_page.proofs.paging.next_position.Goals as goal

pub returns-in_ok-position_of-in-Some : goal.returns-in_ok-position_of-in-Some
returns-in_ok-position_of-in-Some c =
    let last = last_place-map seen_entry c.args.page.now c.in-Some.field-0.now c.in-Some.ensures.value in
    ap (λ (p : Position). Some p) c.in_ok-position_of-in-Some.ensures
    ∙ ap (option_map (position_at c.args.sort.now)) (sym (cond-true c.args.more (last_place (map seen_entry c.args.page.now)) None c.if-not-more.false ∙ last))
