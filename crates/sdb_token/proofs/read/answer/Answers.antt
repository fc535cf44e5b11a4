use Rattle.std.proofs.Common.{inr, Some, option_map, sym, ◌∙◌, ap}
use Rattle.sdb_token.specs.Reading.{decoded}
use Rattle.sdb_token.proofs.TokenLaws.{none_answered, some_answered}
use Rattle.sdb_token.proofs.read.answer.Goals as goal

pub returns-in-None-clause-value : goal.returns-in-None-clause-value
returns-in-None-clause-value c =
    inr (none_answered c.args.digest.now c.args.keyed c.args.text.now (ap decoded (sym c.as_str.ensures.value) ∙ c.in_ok-found.ensures ∙ ap (option_map (λ bytes. bytes.items)) c.in-None.is))

pub returns-in-Some-clause-value : goal.returns-in-Some-clause-value
returns-in-Some-clause-value c =
    some_answered c.args.digest.now c.args.keyed c.args.text.now c.as_slice.result.now c.position_of_bytes.result
    (ap decoded (sym c.as_str.ensures.value) ∙ c.in_ok-found.ensures ∙ ap (option_map (λ bytes. bytes.items)) c.in-Some.is ∙ ap Some (sym c.as_slice.ensures.value))
    c.position_of_bytes.ensures
