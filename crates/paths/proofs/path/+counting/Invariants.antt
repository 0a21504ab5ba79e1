use Rattle.std.proofs.Common.{◌≡◌, ℕ, ◌+◌, ◌*◌, ◌-◌, ◌≤◌, length}
use Rattle.format.specs.Stand.{trees_bytes}
use Rattle.areas.specs.Area.{span}
use Rattle.paths.specs.Walk.{given, Walk, TellsJoined}
use Rattle.paths.proofs.path.+counting.Given as goal

abbrev pub decreases-count : goal.decreases-count
decreases-count l = 2 * (l.path.to - l.i)

abbrev pub decreases-count_over : goal.decreases-count_over
decreases-count_over l = 2 * (l.path.to - l.i) + 1

abbrev pub invariant-count_over-loop-at : goal.invariant-count_over-loop-at
invariant-count_over-loop-at l =
    Walk trees_bytes l.query l.path l.i l.area (span l.at l.end) × (l.initial.at ≤ l.at) × (l.n ≤ l.at - l.initial.at) ×
    ((k : ℕ) → TellsJoined l.query l.path l.i l.area (span l.at l.end) (λ x. k ≡ l.n + length (given x)) → TellsJoined
    l.query l.path l.i l.area (span l.initial.at l.end) (λ x. k ≡ length (given x)))

abbrev pub decreases-count_over-loop-at : goal.decreases-count_over-loop-at
decreases-count_over-loop-at l = l.end - l.at
