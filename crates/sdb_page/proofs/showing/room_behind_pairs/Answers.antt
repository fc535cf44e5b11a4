use Rattle.std.proofs.Common.{◌∙◌, sym, ap, true}
use Rattle.sdb_page.specs.Seen.{left_of}
use Rattle.sdb_page.proofs.ShownLemmas.{bytes-next, bytes-none, bytes-shown, bytes_of, left-none, left-nothing}
use Rattle.sdb_page.specs.Spots.{pair_bytes}
use Rattle.std.proofs.Common.{drop, ◌+◌}
use Rattle.sdb_page.proofs.showing.room_behind_pairs.Goals as goal

pub returns-in_err-room : goal.returns-in_err-room
returns-in_err-room c =
    let next = bytes-next c.args.output.now c.args.pairs.now c.loop-pair.pair-index c.pair-item.result c.pair-item.result true c.loop-pair-test.true c.pair-item.is (sym c.if-is_shown.true ∙ c.is_shown.ensures) in
    c.from_residual.ensures
    ∙ sym (
    ap (left_of c.args.room) (bytes-shown c.args.output.now c.args.pairs.now)
    ∙ c.loop-pair.invariant
    ∙ ap (left_of c.loop-pair.room) next
    ∙ left-none c.loop-pair.room (pair_bytes c.pair-item.result) (bytes_of c.args.output.now (drop (c.loop-pair.pair-index + 1) c.args.pairs.now)) (sym c.in_err-room.ensures)
    )

pub returns : goal.returns
returns c =
    sym (
    ap (left_of c.args.room) (bytes-shown c.args.output.now c.args.pairs.now)
    ∙ c.loop-pair.invariant
    ∙ ap (left_of c.loop-pair.room) (bytes-none c.args.output.now c.args.pairs.now c.loop-pair.pair-index c.loop-pair-test.false)
    ∙ left-nothing c.loop-pair.room
    )
