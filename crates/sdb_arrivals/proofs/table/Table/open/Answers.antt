use Rattle.std.proofs.Common.{◌≡◌, ◌<◌, ◌++◌, ◌∷◌, [], List, vec_capacity, ap, sym, subst, ◌∙◌, arith}
use Rattle.sdb_arrivals.specs.Inside.{IsTable, table_of}
use Rattle.sdb_arrivals.specs.Tables.{Connection, Connections, fresh, swept}
use Rattle.sdb_arrivals.proofs.TableLemmas.{table_fresh, table_swept}
use Rattle.sdb_arrivals.proofs.table.Table.open.Goals as goal

pub invariant_of-self : goal.invariant_of-self
invariant_of-self c =
    let it = c.self.inside in
    let t : Connections = table_of it.entries.items it.last_opened it.bytes_taken it.arrived in
    let above : it.last_opened < c.args.conn = omega (arith, c.requires, ap (λ (t : Connections). t.last_opened) c.self.view_is) in
    subst (λ (es : List Connection). IsTable (table_of es c.args.conn it.bytes_taken it.arrived) (vec_capacity c.sweep.new.entries)) (sym c.sweep.ensures.items)
    (table_swept c.args.released c.args.conn t (vec_capacity it.entries) (vec_capacity c.sweep.new.entries) above c.sweep.ensures.room c.self.invariant)

pub invariant_of-self-2 : goal.invariant_of-self-2
invariant_of-self-2 c =
    let it = c.self.inside in
    let t : Connections = table_of it.entries.items it.last_opened it.bytes_taken it.arrived in
    let above : it.last_opened < c.args.conn = omega (arith, c.requires, ap (λ (t : Connections). t.last_opened) c.self.view_is) in
    let items : c.push_reserved.new.self.items ≡ swept c.args.released it.entries.items ++ fresh c.args.conn ∷ [] =
    c.push_reserved.ensures.items ∙ (ap (λ (es : List Connection). es ++ c.new.result ∷ []) c.sweep.ensures.items ∙ ap (λ (e : Connection). swept c.args.released it.entries.items ++ e ∷ []) c.new.ensures) in
    subst (λ (es : List Connection). IsTable (table_of es c.args.conn it.bytes_taken it.arrived) (vec_capacity c.push_reserved.new.self)) (sym items)
    (table_fresh c.args.released c.args.conn t (vec_capacity it.entries) (vec_capacity c.push_reserved.new.self) above (c.push_reserved.ensures.capacity ∙ c.sweep.ensures.room) c.self.invariant)
