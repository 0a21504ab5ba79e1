use Rattle.std.proofs.Common.{◌-◌}
use Rattle.areas.specs.Area.{span}
use Rattle.format.specs.Stand.{labels_bytes, Holds, Finds}
use Rattle.format.proofs.labels.find.Given as goal
use Rattle.format.specs.Labels.{Found}

abbrev pub invariant-loop-at : goal.invariant-loop-at
invariant-loop-at l =
    Holds labels_bytes l.area l.at l.end × ((r : Found) → Finds l.area (span l.at l.end) l.label r → Finds l.area (span
    l.initial.at l.end) l.label r)

abbrev pub decreases-loop-at : goal.decreases-loop-at
decreases-loop-at l = l.end - l.at
