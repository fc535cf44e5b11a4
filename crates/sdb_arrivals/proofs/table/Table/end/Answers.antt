use Rattle.std.proofs.Common.{List, vec_capacity, refl, subst, inl}
use Rattle.sdb_arrivals.specs.Inside.{IsUpAt, table_of}
use Rattle.sdb_arrivals.specs.Tables.{Connection, Connections}
use Rattle.sdb_arrivals.proofs.TableLemmas.{closes_at, table_closed}
use Rattle.sdb_arrivals.proofs.table.Table.end.Goals as goal

pub invariant_of-self : goal.invariant_of-self
invariant_of-self c =
    let it = c.self.inside in
    let t : Connections = table_of it.entries.items it.last_opened it.bytes_taken it.arrived in
    let u : IsUpAt c.args.conn it.entries.items c.in-Some.at = subst (λ (es : List Connection). IsUpAt c.args.conn es c.in-Some.at) c.deref.ensures.value c.in-Some.ensures in
    table_closed c.args.conn u.entry t c.close_at.new.entries.items (vec_capacity it.entries) (vec_capacity c.close_at.new.entries) (closes_at c.args.conn c.in-Some.at it.entries.items c.close_at.new.entries.items u c.close_at.ensures.items) c.close_at.ensures.room c.self.invariant

pub returns-in-Some : goal.returns-in-Some
returns-in-Some c =
    let it = c.self.inside in
    let u : IsUpAt c.args.conn it.entries.items c.in-Some.at = subst (λ (es : List Connection). IsUpAt c.args.conn es c.in-Some.at) c.deref.ensures.value c.in-Some.ensures in
    rw (← c.self.view_is)
    (refl, inl (record { entry = u.entry; entries = c.close_at.new.entries.items; alters = closes_at c.args.conn c.in-Some.at it.entries.items c.close_at.new.entries.items u c.close_at.ensures.items; now = refl }))
