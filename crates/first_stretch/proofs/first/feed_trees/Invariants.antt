use Rattle.std.proofs.Common.{◌-◌, length}
use Rattle.first_stretch.specs.FirstLaws.{FirstGoing}
use Rattle.first_stretch.proofs.first.feed_trees.Given as goal

abbrev pub invariant-loop-at : goal.invariant-loop-at
invariant-loop-at l = FirstGoing l.input l.initial.work l.query l.stages l.joined l.work l.held l.position l.at

abbrev pub decreases-loop-at : goal.decreases-loop-at
decreases-loop-at l = length l.input - l.at
