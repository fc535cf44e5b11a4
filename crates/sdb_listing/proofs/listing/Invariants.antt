use Rattle.std.proofs.Common.{◌≡◌, ◌++◌}
use Rattle.sdb_listing.specs.Listing.{lines_to}
use Rattle.sdb_listing.proofs.listing.Given as goal

abbrev pub invariant-loop-before : goal.invariant-loop-before
invariant-loop-before l = l.text.bytes ≡ l.initial.text.bytes ++ lines_to l.accounts l.before
