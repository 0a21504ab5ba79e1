use Rattle.std.proofs.Common.{◌-◌}
use Rattle.stretches.specs.LaterLaws.{LaterGoing}
use Rattle.stretches.proofs.later.later.Given as goal

abbrev pub invariant-loop-at : goal.invariant-loop-at
invariant-loop-at l = LaterGoing l.initial.work l.query l.initial.rest l.joined l.initial.held l.work l.held l.rest

abbrev pub decreases-loop-at : goal.decreases-loop-at
decreases-loop-at l = l.rest.to - l.rest.from
