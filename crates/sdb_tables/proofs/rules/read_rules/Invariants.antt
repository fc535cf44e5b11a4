use Rattle.std.proofs.Common.{◌≡◌, drop, length, map}
use Rattle.std.specs.Option.{option_copied}
use Rattle.sdb_tables.specs.Rules.{fields_by, seen}
use Rattle.sdb_tables.proofs.Reading.{after_fields}
use Rattle.sdb_tables.proofs.rules.read_rules.Given as goal

abbrev pub invariant-loop-row : goal.invariant-loop-row
invariant-loop-row g l = record {
  told : after_fields (map option_copied l.values) (fields_by l.params (map seen (drop l.row-index l.rows))) ≡ fields_by l.params (map seen l.rows);
  count : length l.values ≡ l.row-index;
}
