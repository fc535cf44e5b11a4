use Rattle.std.proofs.Common.{◌++◌, sym, ◌∙◌, ap, subst, arith}
use Rattle.std.specs.Str.{IsUtf8}
use Rattle.sdb_reply.specs.Bodies.{hours_text}
use Rattle.sdb_cost.proofs.HoursLemmas.{hours-utf8, no_value}
use Rattle.sdb_cost.proofs.print.print_units.Goals as goal

pub unreachable-requires : goal.unreachable-requires
unreachable-requires c =
    let printed = c.into_vec.ensures ∙ c.in_ok-append_hours.ensures ∙ ap (λ l. l ++ hours_text c.args.units) c.new-out.ensures in
    no_value c.from_utf8.result c.in-Err.field-0 c.in-Err.is (c.from_utf8.ensures.succeeds (subst IsUtf8 (sym printed) (hours-utf8 c.args.units (omega arith))))
