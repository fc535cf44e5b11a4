use Rattle.std.proofs.Common.{sym, ◌∙◌}
use Rattle.sdb_token.proofs.PositionLemmas.{not_behind, found_in, more_in, none_in}
use Rattle.sdb_token.proofs.read.find.Goals as goal

pub returns-in_default : goal.returns-in_default
returns-in_default c = not_behind c.args.digest.now c.args.bytes.now c.args.keyed c.in_default.ensures.none

pub returns-then-is_empty : goal.returns-then-is_empty
returns-then-is_empty c =
    found_in c.args.digest.now c.args.bytes.now c.in-Some.position.now c.in-Ok.rest.now c.args.keyed _ c.requires c.in-Some.ensures.found c.in-Ok.ensures.ok (sym c.is_empty.ensures ∙ c.if-is_empty.true)

pub returns-else-is_empty : goal.returns-else-is_empty
returns-else-is_empty c =
    more_in c.args.digest.now c.args.bytes.now c.in-Some.position.now c.in-Ok.rest.now c.args.keyed _ c.requires c.in-Some.ensures.found c.in-Ok.ensures.ok (sym c.is_empty.ensures ∙ c.if-is_empty.false)

pub returns-in-Err : goal.returns-in-Err
returns-in-Err c = none_in c.args.digest.now c.args.bytes.now c.in-Some.position.now c.args.keyed _ c.requires c.in-Some.ensures.found c.in-Err.ensures.err
