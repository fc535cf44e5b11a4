use Rattle.std.proofs.Common.{◌≡◌, ◌∙◌}
use Rattle.sdb_parse.specs.Printed.{printed}
use Rattle.sdb_parse.proofs.PrintedLaws.{is_read, is_written, printed_is}
use Rattle.sdb_parse.proofs.printing.print.Goals as goal

pub returns-clause-value : goal.returns-clause-value
returns-clause-value c =
    c.finish.ensures
    ∙ printed_is c.args.select.now _ _ _ _ _ _ _ c.in_ok-line.ensures c.in_ok-print_output.ensures c.in_ok-plain.ensures c.in_ok-name.ensures c.in_ok-print_condition.ensures c.in_ok-print_sort.ensures c.in_ok-print_limit.ensures

pub returns-clause-spells : goal.returns-clause-spells
returns-clause-spells c = is_written c.args.select.now c.finish.result (returns-clause-value c)

pub returns-clause-again : goal.returns-clause-again
returns-clause-again c = is_read c.args.select.now c.finish.result (returns-clause-value c)
