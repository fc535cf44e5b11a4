use Rattle.sdb_sign.specs.Signing.{IsVerdict}
use Rattle.sdb_sign.proofs.Verdicts.{exactly, one_verdict}
use Rattle.sdb_sign.proofs.verdict.verify.Goals as goal

pub returns : goal.returns
returns c =
    let verb = c.args.verb in
    let host = c.args.host.now in
    let params = c.args.params.now in
    let keys = c.args.keys.now in
    let now = c.args.now in
    record {
      verdict = λ verdict told. exactly (IsVerdict verb host params keys now) (one_verdict verb host params keys now) c.verdict.result c.verdict.ensures verdict told;
    }
