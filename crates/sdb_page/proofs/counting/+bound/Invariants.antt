use Rattle.std.proofs.Common.{◌≡◌, map, sum_by, min, take}
use Rattle.sdb_parse.specs.Meaning.{any_item, bound, least_by, meaning, member_bound, sole}
use Rattle.sdb_page.specs.Seen.{count_in}
use Rattle.sdb_page.proofs.counting.+bound.Given as goal

abbrev pub invariant-least-loop-member : goal.invariant-least-loop-member
invariant-least-loop-member l = l.least ≡ least_by (count_in l.rows any_item) (λ e. bound e (count_in l.rows)) (take l.member-index l.members)

abbrev pub invariant-least_part-loop-member : goal.invariant-least_part-loop-member
invariant-least_part-loop-member l =
    l.least ≡ least_by (count_in l.rows any_item) (λ e. member_bound (count_in l.rows) (map meaning l.members) (sole e) (bound e (count_in l.rows))) (take l.member-index l.members)

abbrev pub invariant-sum_at_most_all-loop-member : goal.invariant-sum_at_most_all-loop-member
invariant-sum_at_most_all-loop-member l = l.sum ≡ min (count_in l.rows any_item) (sum_by (λ e. bound e (count_in l.rows)) (take l.member-index l.members))
