use Rattle.std.proofs.Common.{length, ◌≡◌, ◌-◌}
use Rattle.spec_trees.specs.Limits.{array_max}
use Rattle.arrange.specs.Arrange.{Following}
use Rattle.arrange.specs.ClassLaws as law
use Rattle.arrange.proofs.arrange.arrange_class.Given as goal

abbrev pub invariant-loop-at : goal.invariant-loop-at
invariant-loop-at l =
    (length l.work ≡ length l.initial.work) × ((f : Following l.initial.work l.first l.initial.so_far) → law.Copying
    l.initial.work l.first l.initial.so_far f l.work l.so_far l.number l.at)

abbrev pub decreases-loop-at : goal.decreases-loop-at
decreases-loop-at l = array_max - l.so_far.to
