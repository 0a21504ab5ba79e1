use Rattle.std.proofs.Common.{◌≡◌, ◌%◌}
use Rattle.compare.specs.Compare.{steps_for, SameFrom}
use Rattle.compare.proofs.words.compare_words.Given as goal

abbrev pub invariant-loop-i : goal.invariant-loop-i
invariant-loop-i l = SameFrom l.one l.other l.i l.steps × (l.i % 8 ≡ 0)

abbrev pub decreases-loop-i : goal.decreases-loop-i
decreases-loop-i l = steps_for l.i
