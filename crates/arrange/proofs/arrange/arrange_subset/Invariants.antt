use Rattle.std.proofs.Common.{length, ◌≡◌, ◌+◌, ◌-◌}
use Rattle.key_index.specs.Index.{base}
use Rattle.arrange.specs.Arrange.{Subset}
use Rattle.arrange.specs.SubsetLaws as law
use Rattle.arrange.proofs.arrange.arrange_subset.Given as goal

abbrev pub invariant-loop-left : goal.invariant-loop-left
invariant-loop-left l =
    (length l.work ≡ length l.initial.work) × ((s : Subset l.initial.work l.len l.subset l.initial.so_far) →
    law.Scanning l.initial.work l.len l.subset l.initial.so_far s l.work l.so_far l.at l.left)

abbrev pub decreases-loop-left : goal.decreases-loop-left
decreases-loop-left l = base + l.len - l.at
