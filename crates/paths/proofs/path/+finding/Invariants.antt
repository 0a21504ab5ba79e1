use Rattle.std.proofs.Common.{◌+◌, ◌*◌, ◌-◌}
use Rattle.format.specs.Stand.{trees_bytes}
use Rattle.areas.specs.Area.{span}
use Rattle.paths.specs.Walk.{given, Walk, TellsJoined, ElementIs, Element}
use Rattle.paths.proofs.path.+finding.Given as goal

abbrev pub decreases-nth : goal.decreases-nth
decreases-nth l = 2 * (l.path.to - l.i)

abbrev pub decreases-nth_over : goal.decreases-nth_over
decreases-nth_over l = 2 * (l.path.to - l.i) + 1

abbrev pub invariant-nth_over-loop-at : goal.invariant-nth_over-loop-at
invariant-nth_over-loop-at l =
    Walk trees_bytes l.query l.path l.i l.area (span l.at l.end) × ((r : Element) → TellsJoined l.query l.path l.i
    l.area (span l.at l.end) (λ x. ElementIs l.area (span l.at l.end) l.left (given x) r) → TellsJoined l.query l.path
    l.i l.area (span l.initial.at l.end) (λ x. ElementIs l.area (span l.initial.at l.end) l.j (given x) r))

abbrev pub decreases-nth_over-loop-at : goal.decreases-nth_over-loop-at
decreases-nth_over-loop-at l = l.end - l.at
