use Rattle.std.proofs.Common.{◌≡◌, ◌≤◌, length}
use lib.Seq.{paste}
use Rattle.areas.proofs.area.copy_in.Given as goal

abbrev pub invariant-loop-i : goal.invariant-loop-i
invariant-loop-i l =
    (l.i ≤ length l.source) × (length l.work ≡ length l.initial.work) × (l.work ≡ paste l.initial.work l.from l.source
    l.i)
