use Rattle.std.proofs.Common.{◌-◌}
use Rattle.positions.specs.BearingLaws as law
use Rattle.positions.proofs.bear.bear.Given as goal

abbrev pub invariant-loop-at : goal.invariant-loop-at
invariant-loop-at l = law.Going l.initial.work l.from l.to l.first l.step l.work l.position l.at

abbrev pub decreases-loop-at : goal.decreases-loop-at
decreases-loop-at l = l.to - l.at
