use Rattle.areas.specs.Area.{span}
use Rattle.tracer_tree.specs.Labels.{Writing}
use Rattle.tracer_tree.proofs.labels.write_labels.Given as goal

abbrev pub invariant-loop-label : goal.invariant-loop-label
invariant-loop-label l = Writing l.message l.places l.initial.out l.out (span l.initial.at l.to) l.label l.at
