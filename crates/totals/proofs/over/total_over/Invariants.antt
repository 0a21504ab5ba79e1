use Rattle.std.proofs.Common.{◌-◌}
use Rattle.areas.specs.Area.{span}
use Rattle.format.specs.Stand.{trees_bytes}
use Rattle.paths.specs.Walk.{given, Walk, TellsJoined}
use Rattle.totals.specs.declared.exact.Total.{Total}
use Rattle.totals.specs.Sum.{Summed, AddsTrees}
use Rattle.totals.proofs.over.total_over.Given as goal

abbrev pub invariant-loop-at : goal.invariant-loop-at
invariant-loop-at l =
    Walk trees_bytes l.query l.path 0 l.area (span l.at l.end) × Summed l.initial.sum l.sum (span l.initial.at l.at) ×
    ((k : Total) → TellsJoined l.query l.path 0 l.area (span l.at l.end) (λ x. AddsTrees l.sum k (given x)) →
    TellsJoined l.query l.path 0 l.area (span l.initial.at l.end) (λ x. AddsTrees l.initial.sum k (given x)))

abbrev pub decreases-loop-at : goal.decreases-loop-at
decreases-loop-at l = l.end - l.at
