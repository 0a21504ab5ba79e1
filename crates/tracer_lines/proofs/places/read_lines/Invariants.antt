use Rattle.std.proofs.Common.{◌-◌, length}
use Rattle.tracer_lines.specs.Places.{Reading}
use Rattle.tracer_lines.proofs.places.read_lines.Given as goal

abbrev pub invariant-loop-at : goal.invariant-loop-at
invariant-loop-at l = Reading l.message l.at l.places

abbrev pub decreases-loop-at : goal.decreases-loop-at
decreases-loop-at l = length l.message - l.at
