use Rattle.std.proofs.Common.{◌+◌, ◌*◌, ◌-◌}
use Rattle.areas.specs.Area.{span}
use Rattle.format.specs.Stand.{trees_bytes}
use Rattle.paths.specs.Walk.{given, Walk, TellsJoined}
use Rattle.totals.specs.declared.exact.Total.{Total}
use Rattle.totals.specs.Sum.{Summed, AddsTrees}
use Rattle.totals.proofs.sum.+summing.Given as goal

abbrev pub decreases-sum_over : goal.decreases-sum_over
decreases-sum_over l = 2 * (l.path.to - l.i) + 1

abbrev pub decreases-sum_walk : goal.decreases-sum_walk
decreases-sum_walk l = 2 * (l.path.to - l.i)

abbrev pub invariant-sum_over-loop-at : goal.invariant-sum_over-loop-at
invariant-sum_over-loop-at l =
    Walk trees_bytes l.query l.path l.i l.area (span l.at l.end) × Summed l.initial.sum l.sum (span l.initial.at l.at) ×
    ((k : Total) → TellsJoined l.query l.path l.i l.area (span l.at l.end) (λ x. AddsTrees l.sum k (given x)) →
    TellsJoined l.query l.path l.i l.area (span l.initial.at l.end) (λ x. AddsTrees l.initial.sum k (given x)))

abbrev pub decreases-sum_over-loop-at : goal.decreases-sum_over-loop-at
decreases-sum_over-loop-at l = l.end - l.at
