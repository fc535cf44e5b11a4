use Rattle.std.proofs.Common.{refl}
use Rattle.sdb_script.proofs.RequestLemmas.{distinct}
use Rattle.sdb_script.proofs.request.replace_params.Goals as goal

pub params_with-requires : goal.params_with-requires
params_with-requires c = distinct _ refl
