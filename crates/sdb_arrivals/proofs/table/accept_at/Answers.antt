use Rattle.std.proofs.Common.{◌≡◌, refl, sym, ap, ◌∙◌, arith}
use Rattle.std.proofs.lemmas.Result.{IfOk-weaker}
use Rattle.sdb_arrivals.specs.Tables.{Connection}
use Rattle.sdb_arrivals.proofs.TableLemmas.{alters_at, held_at, same_at}
use Rattle.sdb_arrivals.proofs.table.accept_at.Goals as goal

pub accept-requires-clause-room : goal.accept-requires-clause-room
accept-requires-clause-room c =
    let few = held_at c.args.entries.now.items c.args.at c.index_mut-entry.result.now c.requires.up.within (sym c.index_mut-entry.ensures.value) in
    omega (arith, few, c.requires.room)

pub returns-clause-ok : goal.returns-clause-ok
returns-clause-ok c =
    let entries = c.args.entries.now.items in
    let x = c.index_mut-entry.result.now in
    let u = c.requires.up in
    let is : x ≡ u.entry = c.index_mut-entry.ensures.value ∙ (same_at entries c.args.at x u.entry u.within ∙ u.is) in
    IfOk-weaker c.accept.result _ _
    (λ now h. record {
      entry = x;
      after = c.accept.new.self;
      alters = alters_at c.args.origin.conn entries _ c.args.at x c.accept.new.self u.within (sym c.index_mut-entry.ensures.value) (ap (λ (e : Connection). e.conn) is ∙ u.same) (ap (λ (e : Connection). e.up) is ∙ u.up) refl;
      accepts = h;
    })
    c.accept.ensures.ok
