use Rattle.std.proofs.Common.{Ok, Err}
use Rattle.sdb_form.specs.declared.fault.FormFault.TheVariants as variant
use Rattle.sdb_form.proofs.Answers.{exactly}
use Rattle.sdb_form.proofs.Params.{only_answer}
use Rattle.sdb_form.proofs.reading.read.Goals as goal

pub returns-clause-params : goal.returns-clause-params
returns-clause-params c = λ params told.
    exactly c.args.form.now _ (Ok params) c.answer.ensures (λ same. cc) told

pub returns-clause-not_utf8 : goal.returns-clause-not_utf8
returns-clause-not_utf8 c = λ place told.
    exactly c.args.form.now _ (Err (variant.NotUtf8 place)) c.answer.ensures (λ same. cc) told

pub returns-clause-repeated : goal.returns-clause-repeated
returns-clause-repeated c = λ place told.
    exactly c.args.form.now _ (Err (variant.Repeated place)) c.answer.ensures (λ same. cc) told

pub returns-clause-answer : goal.returns-clause-answer
returns-clause-answer c = λ told. only_answer c.args.form.now c.answer.result told c.answer.ensures
