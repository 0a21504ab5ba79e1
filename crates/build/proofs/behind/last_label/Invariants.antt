use Rattle.std.proofs.Common.{ℕ, ◌-◌}
use Rattle.areas.specs.Area.{span}
use Rattle.format.specs.Stand.{labels_bytes, Holds}
use Rattle.build.specs.Behind.{LastIs}
use Rattle.build.specs.BehindLaws.{LastFrom}
use Rattle.build.proofs.behind.last_label.Given as goal

abbrev pub invariant-loop-at : goal.invariant-loop-at
invariant-loop-at l =
    Holds labels_bytes l.area l.at l.end × ((r : ℕ) → LastFrom l.area l.at l.end l.last r → LastIs l.area (span
    l.initial.at l.end) r)

abbrev pub decreases-loop-at : goal.decreases-loop-at
decreases-loop-at l = l.end - l.at
