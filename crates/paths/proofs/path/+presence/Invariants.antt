use Rattle.std.proofs.Common.{◌≡◌, Bool, ◌+◌, ◌*◌, ◌-◌}
use Rattle.format.specs.Stand.{trees_bytes}
use Rattle.spec_stages.specs.Paths as paths
use Rattle.areas.specs.Area.{span}
use Rattle.paths.specs.Walk.{Walk, TellsJoined}
use Rattle.paths.proofs.path.+presence.Given as goal

abbrev pub decreases-present : goal.decreases-present
decreases-present l = 2 * (l.path.to - l.i)

abbrev pub decreases-present_over : goal.decreases-present_over
decreases-present_over l = 2 * (l.path.to - l.i) + 1

abbrev pub invariant-present_over-loop-at : goal.invariant-present_over-loop-at
invariant-present_over-loop-at l =
    Walk trees_bytes l.query l.path l.i l.area (span l.at l.end) × ((r : Bool) → TellsJoined l.query l.path l.i l.area
    (span l.at l.end) (λ x. r ≡ paths.present x) → TellsJoined l.query l.path l.i l.area (span l.initial.at l.end) (λ x.
    r ≡ paths.present x))

abbrev pub decreases-present_over-loop-at : goal.decreases-present_over-loop-at
decreases-present_over-loop-at l = l.end - l.at
