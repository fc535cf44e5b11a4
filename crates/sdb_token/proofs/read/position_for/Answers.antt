use Rattle.std.proofs.Common.{arith}
use Rattle.sdb_token.specs.Tokens.{IsDigest}
use Rattle.sdb_token.proofs.TokenLaws.{found, only, refused}
use Rattle.sdb_token.proofs.read.position_for.Goals as goal

pub returns-clause-found : goal.returns-clause-found
returns-clause-found c =
    let digest : IsDigest c.args.digest.now = record { size = c.requires; bytes = λ i. let f = c.type_inv.digest i in omega arith } in
    found c.args.digest.now c.args.keyed c.args.text.now c.answer.result digest c.answer.ensures.utf8 c.answer.ensures.value

pub returns-clause-only : goal.returns-clause-only
returns-clause-only c =
    let digest : IsDigest c.args.digest.now = record { size = c.requires; bytes = λ i. let f = c.type_inv.digest i in omega arith } in
    only c.args.digest.now c.args.keyed c.args.text.now c.answer.result digest c.answer.ensures.value

pub returns-clause-refused : goal.returns-clause-refused
returns-clause-refused c =
    let digest : IsDigest c.args.digest.now = record { size = c.requires; bytes = λ i. let f = c.type_inv.digest i in omega arith } in
    refused c.args.digest.now c.args.keyed c.args.text.now c.answer.result digest c.answer.ensures.value
