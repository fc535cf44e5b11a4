use Rattle.sdb_core.proofs.EventLemmas.{comes_to, hand_came}
use Rattle.sdb_core.proofs.events.piece.Goals as goal

pub returns-clause-ok : goal.returns-clause-ok
returns-clause-ok g c =
    comes_to c.args.keys.now c.args.conn c.args.moment c.args.bytes.now c.args.line.now c.piece.new.line c.fill_if_sound.new.line c.args.store.now c.fill_if_sound.new.store c.args.table.now c.piece.new.self c.args.items.now c.fill_if_sound.new.items
    c.in_ok-piece.ensures.ok c.fill_if_sound.ensures.fills

pub returns-clause-hand : goal.returns-clause-hand
returns-clause-hand g c =
    hand_came c.args.keys.now c.args.conn c.args.moment c.args.bytes.now c.args.line.now c.piece.new.line c.fill_if_sound.new.line c.args.store.now c.fill_if_sound.new.store c.args.table.now c.piece.new.self c.args.items.now c.fill_if_sound.new.items
    c.in_ok-piece.ensures.ok c.fill_if_sound.ensures.fills
