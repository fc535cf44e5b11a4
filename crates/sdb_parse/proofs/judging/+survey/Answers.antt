use Rattle.std.proofs.Common.{fold}
use Rattle.std.specs.List.{flat_map}
use Rattle.sdb_parse.specs.Judged.{predicates}
use Rattle.sdb_parse.specs.Tally.{counted}
use Rattle.sdb_parse.proofs.JudgedLemmas.{survey_on, survey_end}
use Rattle.sdb_parse.proofs.judging.+survey.Goals as goal

pub survey_all-loop-member-preserved : goal.survey_all-loop-member-preserved
survey_all-loop-member-preserved t c =
    survey_on c.args.attr.now c.loop-member.seen c.survey-seen.result (fold (counted c.args.attr.now) c.args.so_far (flat_map predicates c.args.members.now)) c.args.members.now c.loop-member.member-index
    c.member-item.result c.loop-member-test.true c.member-item.is c.survey-seen.ensures c.loop-member.invariant

pub survey_all-returns : goal.survey_all-returns
survey_all-returns t c =
    survey_end c.args.attr.now c.loop-member.seen (fold (counted c.args.attr.now) c.args.so_far (flat_map predicates c.args.members.now)) c.args.members.now c.loop-member.member-index c.loop-member-test.false
    c.loop-member.invariant
