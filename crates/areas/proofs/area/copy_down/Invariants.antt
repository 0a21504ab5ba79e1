use Rattle.std.proofs.Common.{◌≡◌, ◌≤◌, length}
use Rattle.areas.specs.AreaLaws.{Backwards}
use Rattle.areas.proofs.area.copy_down.Given as goal

abbrev pub invariant-loop-i : goal.invariant-loop-i
invariant-loop-i l =
    (l.i ≤ l.initial.i) × (length l.work ≡ length l.initial.work) × Backwards l.initial.work l.from l.initial.i l.to
    l.work l.i
