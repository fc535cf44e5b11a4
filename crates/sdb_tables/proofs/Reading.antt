-- The fields read so far, before those of the rows that are left.
use Rattle.std.proofs.Common.{List, ◌++◌, Result, Ok, Err}
use Rattle.sdb_tables.specs.declared.refusal.Refusal.{Refusal}
use Rattle.sdb_tables.specs.Rules.{Field}

-- fields that were read, before what the rest gives
abbrev pub after_fields : List Field → Result (List Field) Refusal → Result (List Field) Refusal
after_fields read (Err refusal) = Err refusal
after_fields read (Ok fields) = Ok (read ++ fields)
