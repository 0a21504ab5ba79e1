use Rattle.std.proofs.Common.{◌≡◌, ◌≤◌, ◌+◌, ◌*◌, ◌-◌}
use lib.Seq.{slice}
use Rattle.queries.specs.Accept.{by_rule, rest_ok}
use Rattle.queries.proofs.check.+checking.Given as goal

abbrev pub decreases-check_criterion : goal.decreases-check_criterion
decreases-check_criterion l = 3 * (l.content.to - l.content.from) + 1

abbrev pub decreases-check_data : goal.decreases-check_data
decreases-check_data l = 3 * (l.content.to - l.content.from) + 1

abbrev pub decreases-check_field : goal.decreases-check_field
decreases-check_field l = 3 * (l.content.to - l.content.from) + 2

abbrev pub decreases-check_inside : goal.decreases-check_inside
decreases-check_inside l = 3 * (l.content.to - l.content.from)

abbrev pub invariant-check_inside-loop-at : goal.invariant-check_inside-loop-at
invariant-check_inside-loop-at l =
    (l.initial.at ≤ l.at) × (l.at ≤ l.end) × (l.count ≤ l.at) × (rest_ok l.left l.rule l.count l.area l.at l.end ≡
    by_rule l.left l.field (slice l.initial.at l.end l.area))

abbrev pub decreases-check_inside-loop-at : goal.decreases-check_inside-loop-at
decreases-check_inside-loop-at l = l.end - l.at
