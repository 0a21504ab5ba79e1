use Rattle.std.proofs.Common.{ℕ, ◌+◌, ◌*◌, ◌-◌, ◌≤◌}
use Rattle.format.specs.Stand.{trees_bytes}
use Rattle.areas.specs.Area.{span}
use Rattle.queries.specs.Places.{HoldsAt}
use Rattle.unwind.specs.Outcomes.{CountsEach}
use Rattle.unwind.proofs.unwind.+unwinding.Given as goal

abbrev pub decreases-outcomes : goal.decreases-outcomes
decreases-outcomes l = 2 * (l.path.to - l.i)

abbrev pub decreases-outcomes_each : goal.decreases-outcomes_each
decreases-outcomes_each l = 2 * (l.path.to - l.i) + 1

abbrev pub invariant-outcomes_each-loop-at : goal.invariant-outcomes_each-loop-at
invariant-outcomes_each-loop-at l =
    (l.n ≤ l.at) × HoldsAt trees_bytes l.area (span l.at l.end) × ((r : ℕ) → CountsEach l.query l.path l.i l.area (span
    l.at l.end) r → CountsEach l.query l.path l.i l.area (span l.initial.at l.end) (l.n + r))

abbrev pub decreases-outcomes_each-loop-at : goal.decreases-outcomes_each-loop-at
decreases-outcomes_each-loop-at l = l.end - l.at
