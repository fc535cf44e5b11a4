use Rattle.std.proofs.Common.{sym}
use Rattle.std.proofs.lemmas.List.{get_or-map}
use Rattle.sdb_tables.specs.Faults.{no_fault, seen}
use Rattle.sdb_tables.proofs.faults.row_in.Goals as goal

pub returns : goal.returns
returns c = sym (get_or-map seen c.args.rows.now c.args.place _ no_fault c.requires)
