use Rattle.std.proofs.Common.{◌≡◌, ◌++◌, take}
use Rattle.std.specs.List.{join_by}
use Rattle.sdb_parse.specs.Printed.{member_text, shown}
use Rattle.sdb_parse.proofs.PrintedLemmas.{between}
use Rattle.sdb_parse.proofs.printing.+print.Given as goal

abbrev pub invariant-print_joined-loop-member : goal.invariant-print_joined-loop-member
invariant-print_joined-loop-member l = record {
  gap : l.before ≡ between l.word l.member-index;
  written : l.line ≡ l.fn.line ++ join_by (λ e. member_text l.bound (shown e)) l.word (take l.member-index l.members);
}
