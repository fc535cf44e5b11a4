use Rattle.std.proofs.Common.{Ok, Err}
use Rattle.sdb_keys.specs.declared.fault.KeyFault.TheVariants as variant
use Rattle.sdb_keys.specs.File.{file_lines}
use Rattle.sdb_keys.proofs.Whole.{exactly, given}
use Rattle.sdb_keys.proofs.file.read_keys.Goals as goal

pub returns-clause-keys : goal.returns-clause-keys
returns-clause-keys c = λ keys told.
    exactly (file_lines c.args.text.now) _ (Ok keys) (given _ _ c.read_lines.ensures told) (λ same. cc)

pub returns-clause-bad_line : goal.returns-clause-bad_line
returns-clause-bad_line c = λ number told.
    exactly (file_lines c.args.text.now) _ (Err (variant.BadLine number)) (given _ _ c.read_lines.ensures told) (λ same. cc)

pub returns-clause-doubled : goal.returns-clause-doubled
returns-clause-doubled c = λ number told.
    exactly (file_lines c.args.text.now) _ (Err (variant.Doubled number)) (given _ _ c.read_lines.ensures told) (λ same. cc)

pub returns-clause-too_many : goal.returns-clause-too_many
returns-clause-too_many c = λ number told.
    exactly (file_lines c.args.text.now) _ (Err (variant.TooMany number)) (given _ _ c.read_lines.ensures told) (λ same. cc)
