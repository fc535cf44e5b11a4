use Rattle.std.proofs.Common.{◌+◌, ◌<◌, ◌^◌, length, vec_capacity, ap, arith}
use Rattle.sdb_arrivals.specs.Inside.{table_of}
use Rattle.sdb_arrivals.specs.Tables.{Connections}
use Rattle.sdb_arrivals.proofs.TableLemmas.{table_accepted}
use Rattle.sdb_arrivals.proofs.table.Table.piece.Goals as goal

pub invariant_of-self-2 : goal.invariant_of-self-2
invariant_of-self-2 c =
    let it = c.self.inside in
    let t : Connections = table_of it.entries.items it.last_opened it.bytes_taken it.arrived in
    let fits : it.bytes_taken + length c.args.bytes.now < 2 ^ 48 = omega (arith, c.requires, ap (λ (t : Connections). t.bytes_taken) c.self.view_is) in
    table_accepted c.args.keys.now c.args.conn c.args.moment c.args.bytes.now t c.accept_at.new.entries.items c.in_ok-arrived.arrived (vec_capacity it.entries) (vec_capacity c.accept_at.new.entries) c.args.line.now c.accept_at.new.line c.in_ok-arrived.ensures.ok fits c.in_ok-arrived.ensures.room c.self.invariant
