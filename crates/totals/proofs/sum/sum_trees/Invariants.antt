use Rattle.std.proofs.Common.{◌-◌}
use Rattle.format.specs.Stand.{trees_bytes, Holds}
use Rattle.areas.specs.Area.{span}
use Rattle.totals.specs.declared.exact.Total.{Total}
use Rattle.totals.specs.Sum.{Summed, AddsPart}
use Rattle.totals.proofs.sum.sum_trees.Given as goal

abbrev pub invariant-loop-at : goal.invariant-loop-at
invariant-loop-at l =
    Holds trees_bytes l.area l.at l.end × Summed l.initial.sum l.sum (span l.initial.at l.at) × ((k : Total) → AddsPart
    l.area (span l.at l.end) l.sum k → AddsPart l.area (span l.initial.at l.end) l.initial.sum k)

abbrev pub decreases-loop-at : goal.decreases-loop-at
decreases-loop-at l = l.end - l.at
