use Rattle.std.proofs.Common.{◌≤◌, Err, length, arith, sym, ap}
use Rattle.sdb_parse.specs.Parsed.{accepted, refused, not_spelled}
use Rattle.sdb_parse.specs.Terms.{terms_of}
use Rattle.sdb_parse.proofs.LawfulLemmas.{select_lawful}
use Rattle.sdb_parse.proofs.LineSound.{select_sound}
use Rattle.sdb_parse.proofs.ReadLemmas.{is_spelled, spelled_is_read}
use Rattle.sdb_parse.proofs.reading.parse.Goals as goal

pub returns-then-as_str-gt-MOST_BYTES-clause-answer : goal.returns-then-as_str-gt-MOST_BYTES-clause-answer
returns-then-as_str-gt-MOST_BYTES-clause-answer c = λ _. not_spelled c.args.text.now (λ s w. omega (arith, w.short, ap length c.as_str.ensures.value))

pub returns-in-Err-Syntax-clause-answer : goal.returns-in-Err-Syntax-clause-answer
returns-in-Err-Syntax-clause-answer c =
    λ _. not_spelled c.args.text.now (λ s w. c.in-Err-Syntax.ensures.none (ap Err c.in-Err-Syntax.field-0-is) s (spelled_is_read c.args.text.now s w))

pub returns-in-Some-clause-answer : goal.returns-in-Some-clause-answer
returns-in-Some-clause-answer c =
    let short : length c.args.text.now ≤ 65536 = omega (arith, ap length c.as_str.ensures.value) in
    λ _. refused c.args.text.now c.in-Ok.select c.in-Some.refusal (is_spelled c.args.text.now c.in-Ok.select short c.in-Ok.ensures.ok) (sym c.in-Some.ensures)

pub returns-in-None-clause-answer : goal.returns-in-None-clause-answer
returns-in-None-clause-answer c =
    let short : length c.args.text.now ≤ 65536 = omega (arith, ap length c.as_str.ensures.value) in
    λ _. accepted c.args.text.now c.in-Ok.select (is_spelled c.args.text.now c.in-Ok.select short c.in-Ok.ensures.ok) (sym c.in-None.ensures)

pub returns-in-None-clause-lawful : goal.returns-in-None-clause-lawful
returns-in-None-clause-lawful c = select_lawful (terms_of c.args.text.now c.in-Ok.ensures.ok.tokens) c.in-Ok.select (select_sound (terms_of c.args.text.now c.in-Ok.ensures.ok.tokens) c.in-Ok.select c.in-Ok.ensures.ok.rest c.in-Ok.ensures.ok.read)
