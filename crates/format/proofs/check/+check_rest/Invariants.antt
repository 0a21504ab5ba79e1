use Rattle.std.proofs.Common.{◌≡◌, ◌≤◌, ◌-◌}
use Rattle.format.specs.Check.{rest_ok}
use Rattle.format.proofs.check.+check_rest.Given as goal

abbrev pub decreases-check_rest : goal.decreases-check_rest
decreases-check_rest l = l.left

abbrev pub invariant-loop-next : goal.invariant-loop-next
invariant-loop-next l =
    (l.p.at ≤ l.p.stop) × (l.p.stop ≤ l.end) × (rest_ok l.left l.area l.p l.end ≡ rest_ok l.left l.area l.initial.p
    l.end)

abbrev pub decreases-loop-next : goal.decreases-loop-next
decreases-loop-next l = l.end - l.p.at
