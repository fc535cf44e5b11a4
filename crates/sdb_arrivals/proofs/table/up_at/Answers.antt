use Rattle.std.proofs.Common.{◌≡◌, ◌+◌, ◌-◌, ◌/◌, ◌<◌, ◌≤◌, false, length, sym, subst, Option, ℕ, MatchOption, arith, ◌∙◌}
use Rattle.sdb_arrivals.specs.Inside.{IsUpAt}
use Rattle.sdb_arrivals.specs.Tables.{open_in}
use Rattle.sdb_arrivals.proofs.TableLemmas.{between_all, between_high, between_low, found_at, none_between}
use Rattle.sdb_arrivals.proofs.table.up_at.Goals as goal

pub halves-init : goal.halves-init
halves-init c = between_all c.args.conn c.args.entries.now

pub returns-then-found-conn : goal.returns-then-found-conn
returns-then-found-conn c =
    let entries = c.args.entries.now in
    let middle = c.halves.low + (c.halves.high - c.halves.low) / 2 in
    let inside : middle < c.halves.high = omega arith in
    let within : middle < length entries = omega (arith, c.halves.invariant.within) in
    subst (λ (o : Option ℕ). MatchOption o (open_in c.args.conn entries ≡ false) (IsUpAt c.args.conn entries)) (sym c.if_up.ensures)
    (found_at c.args.conn entries middle c.index-entries-middle.result c.requires within c.index-entries-middle.is (sym c.conn-found.ensures ∙ c.if-found-conn.true))

pub halves-preserved-then-found-conn-2 : goal.halves-preserved-then-found-conn-2
halves-preserved-then-found-conn-2 c =
    let middle = c.halves.low + (c.halves.high - c.halves.low) / 2 in
    let inside : middle < c.halves.high = omega arith in
    between_high c.args.conn c.args.entries.now c.halves.low c.halves.high middle c.index-entries-middle.result c.requires c.halves.invariant inside c.index-entries-middle.is (omega (arith, c.conn-found.ensures, c.if-found-conn-2.true))

pub halves-preserved : goal.halves-preserved
halves-preserved c =
    let middle = c.halves.low + (c.halves.high - c.halves.low) / 2 in
    let inside : middle < c.halves.high = omega arith in
    let from : c.halves.low ≤ middle = omega arith in
    between_low c.args.conn c.args.entries.now c.halves.low c.halves.high middle c.index-entries-middle.result c.requires c.halves.invariant from inside c.index-entries-middle.is (omega (arith, c.conn-found.ensures, c.if-found-conn-2.false, c.if-found-conn.false))

pub returns : goal.returns
returns c = none_between c.args.conn c.args.entries.now c.halves.low c.halves.high c.halves-test.false c.halves.invariant
