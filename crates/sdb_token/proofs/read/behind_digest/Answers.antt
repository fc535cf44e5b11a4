use Rattle.sdb_token.proofs.PositionLemmas.{version_read, no_version}
use Rattle.sdb_token.proofs.StripLemmas.{stripped_found, stripped_none}
use Rattle.sdb_token.proofs.read.behind_digest.Goals as goal

pub returns-in-Ok-clause-found : goal.returns-in-Ok-clause-found
returns-in-Ok-clause-found c = stripped_found c.args.bytes.now c.in-Ok.rest.now c.args.digest.now c.strip_prefix.result (version_read c.args.bytes.now c.in-Ok.rest.now _ c.in-Ok.ensures.ok) c.strip_prefix.ensures.cases

pub returns-in-Ok-clause-none : goal.returns-in-Ok-clause-none
returns-in-Ok-clause-none c = stripped_none c.args.bytes.now c.in-Ok.rest.now c.args.digest.now c.strip_prefix.result (version_read c.args.bytes.now c.in-Ok.rest.now _ c.in-Ok.ensures.ok) c.strip_prefix.ensures.cases

pub returns-in-Err-clause-none : goal.returns-in-Err-clause-none
returns-in-Err-clause-none c rest = no_version c.args.bytes.now _ _ c.in-Err.ensures.err
