use Rattle.std.proofs.Common.{◌≡◌, ◌<◌, ◌∙◌, sym, ap, map, get_or, length, arith}
use Rattle.std.proofs.lemmas.List.{get_or-map, length-map}
use Rattle.sdb_page.specs.Seen.{seen_entry}
use Rattle.sdb_page.specs.Selects.{room_of}
use Rattle.sdb_page.specs.Spots.{most_bytes}
use Rattle.sdb_page.proofs.CutLemmas.{Cutting-limit, Cutting-full, Cutting-more}
use Rattle.sdb_page.proofs.paging.page_len.Goals as goal

pub returns-then-place-limit-clause-front : goal.returns-then-place-limit-clause-front
returns-then-place-limit-clause-front c =
    Cutting-limit (room_of c.args.output.now) c.args.limit most_bytes c.loop-place.room (map seen_entry c.args.rows.now) c.loop-place.place c.if-place-limit.true c.loop-place.invariant

pub returns-in-None-clause-front : goal.returns-in-None-clause-front
returns-in-None-clause-front c =
    let rows = map seen_entry c.args.rows.now in
    let row = seen_entry c.index-rows-place.result in
    let inside : c.loop-place.place < length rows = omega (arith, c.loop-place-test.true, length-map c.args.rows.now seen_entry) in
    let here : row ≡ get_or rows c.loop-place.place row = ap seen_entry c.index-rows-place.is ∙ sym (get_or-map seen_entry c.args.rows.now c.loop-place.place c.index-rows-place.result row c.loop-place-test.true) in
    Cutting-full (room_of c.args.output.now) c.args.limit most_bytes c.loop-place.room rows c.loop-place.place row row inside here (sym c.in-None.ensures) c.loop-place.invariant

pub loop-place-preserved : goal.loop-place-preserved
loop-place-preserved c =
    let rows = map seen_entry c.args.rows.now in
    let row = seen_entry c.index-rows-place.result in
    let inside : c.loop-place.place < length rows = omega (arith, c.loop-place-test.true, length-map c.args.rows.now seen_entry) in
    let here : row ≡ get_or rows c.loop-place.place row = ap seen_entry c.index-rows-place.is ∙ sym (get_or-map seen_entry c.args.rows.now c.loop-place.place c.index-rows-place.result row c.loop-place-test.true) in
    let below : c.loop-place.place < c.args.limit = omega (arith, c.loop-place.invariant.within, c.if-place-limit.false) in
    Cutting-more (room_of c.args.output.now) c.args.limit most_bytes c.loop-place.room c.in-Some.left rows c.loop-place.place row row inside below here (sym c.in-Some.ensures) c.loop-place.invariant
