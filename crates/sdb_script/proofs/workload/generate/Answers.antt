use Rattle.std.proofs.Common.{◌*◌, ◌++◌, ap, ◌∙◌}
use Rattle.sdb_script.specs.Events.{Commit}
use Rattle.sdb_script.specs.Spelled.{spelled, script_of}
use Rattle.sdb_script.specs.Workload.{preparation, turns}
use Rattle.sdb_script.proofs.WorkloadLemmas.{workload-parts}
use Rattle.sdb_script.proofs.workload.generate.Goals as goal

pub returns : goal.returns
returns c =
    c.in_ok-append_commit.ensures
    ∙ ap (λ l. l ++ spelled Commit) (
    c.in_ok-append_turns.ensures
    ∙ ap (λ l. l ++ script_of (turns (100 * c.args.n) 0 c.args.n)) (c.in_ok-append_preparation.ensures ∙ ap (λ l. l ++ script_of preparation) c.new-script.ensures)
    )
    ∙ workload-parts c.args.n
