use Rattle.sdb_action.specs.Tables.{domain_rows, item_rows, get_rows, list_rows, select_rows}
use Rattle.sdb_action.proofs.fields.fields_of.Goals as goal

pub returns-in-Domain-clause-answer : goal.returns-in-Domain-clause-answer
unfolding domain_rows
returns-in-Domain-clause-answer c = rw c.in-Domain.is c.read_rules.ensures.answer

pub returns-in-Item-clause-answer : goal.returns-in-Item-clause-answer
unfolding item_rows
returns-in-Item-clause-answer c = rw c.in-Item.is c.read_rules-in-Item.ensures.answer

pub returns-in-Get-clause-answer : goal.returns-in-Get-clause-answer
unfolding get_rows
returns-in-Get-clause-answer c = rw c.in-Get.is c.read_rules-in-Get.ensures.answer

pub returns-in-List-clause-answer : goal.returns-in-List-clause-answer
unfolding list_rows
returns-in-List-clause-answer c = rw c.in-List.is c.read_rules-in-List.ensures.answer

pub returns-in-Select-clause-answer : goal.returns-in-Select-clause-answer
unfolding select_rows
returns-in-Select-clause-answer c = rw c.in-Select.is c.read_rules-in-Select.ensures.answer
