use Rattle.std.proofs.Common.{◌≡◌, [], ◌∷◌, Ok, Err, sym, ap, ◌∙◌}
use Rattle.sdb_keys.specs.declared.fault.KeyFault.TheVariants as fault
use Rattle.sdb_bench.specs.Measures.{workload_key}
use Rattle.sdb_bench.proofs.KeyLemmas.{the_keys}
use Rattle.sdb_bench.proofs.opening.workload_keys.Goals as goal

pub returns-in-Ok : goal.returns-in-Ok
returns-in-Ok c =
    let is : Ok c.in-Ok.keys ≡ Ok (workload_key ∷ []) =
    sym c.in-Ok.is ∙ the_keys c.read_keys.result c.read_keys.ensures.keys (λ lacks. let no : Ok c.in-Ok.keys ≡ Err fault.OutOfMemory = sym c.in-Ok.is ∙ lacks in absurd cc) in
    cc

pub unreachable-requires : goal.unreachable-requires
unreachable-requires c =
    let is = c.in-Err-BadLine.is ∙ ap Err c.in-Err-BadLine.field-0-is in
    let none : Err (fault.BadLine c.in-Err-BadLine.field-0-0) ≡ Ok (workload_key ∷ []) =
    sym is ∙ the_keys c.read_keys.result c.read_keys.ensures.keys (λ lacks. let no : Err (fault.BadLine c.in-Err-BadLine.field-0-0) ≡ Err fault.OutOfMemory = sym is ∙ lacks in absurd cc) in
    cc

pub unreachable-requires-in-Err-Doubled : goal.unreachable-requires-in-Err-Doubled
unreachable-requires-in-Err-Doubled c =
    let is = c.in-Err-Doubled.is ∙ ap Err c.in-Err-Doubled.field-0-is in
    let none : Err (fault.Doubled c.in-Err-Doubled.field-0-0) ≡ Ok (workload_key ∷ []) =
    sym is ∙ the_keys c.read_keys.result c.read_keys.ensures.keys (λ lacks. let no : Err (fault.Doubled c.in-Err-Doubled.field-0-0) ≡ Err fault.OutOfMemory = sym is ∙ lacks in absurd cc) in
    cc

pub unreachable-requires-in-Err-TooMany : goal.unreachable-requires-in-Err-TooMany
unreachable-requires-in-Err-TooMany c =
    let is = c.in-Err-TooMany.is ∙ ap Err c.in-Err-TooMany.field-0-is in
    let none : Err (fault.TooMany c.in-Err-TooMany.field-0-0) ≡ Ok (workload_key ∷ []) =
    sym is ∙ the_keys c.read_keys.result c.read_keys.ensures.keys (λ lacks. let no : Err (fault.TooMany c.in-Err-TooMany.field-0-0) ≡ Err fault.OutOfMemory = sym is ∙ lacks in absurd cc) in
    cc
