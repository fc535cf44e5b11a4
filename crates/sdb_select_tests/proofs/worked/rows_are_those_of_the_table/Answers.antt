use Rattle.sdb_select_tests.proofs.WorkedLemmas.{all_attribute_rows, all_member_rows, all_other_rows}
use Rattle.sdb_select_tests.proofs.worked.rows_are_those_of_the_table.Goals as goal

pub returns-clause-attributes : goal.returns-clause-attributes
returns-clause-attributes c = all_attribute_rows

pub returns-clause-others : goal.returns-clause-others
returns-clause-others c = all_other_rows

pub returns-clause-members : goal.returns-clause-members
returns-clause-members c = all_member_rows
