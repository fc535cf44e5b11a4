use Rattle.std.proofs.Common.{◌≡◌, drop, fold}
use Rattle.std.specs.List.{flat_map}
use Rattle.sdb_parse.specs.Judged.{predicates}
use Rattle.sdb_parse.specs.Tally.{counted}
use Rattle.sdb_parse.proofs.judging.+survey.Given as goal

abbrev pub invariant-survey_all-loop-member : goal.invariant-survey_all-loop-member
invariant-survey_all-loop-member l =
    fold (counted l.attr) l.seen (flat_map predicates (drop l.member-index l.members)) ≡ fold (counted l.attr) l.fn.so_far (flat_map predicates l.members)
