use Rattle.std.proofs.Common.{◌≡◌, ◌≤◌, length, take, drop}
use lib.Seq.{paste}
use Rattle.areas.proofs.area.carry.Given as goal

abbrev pub invariant-loop-i : goal.invariant-loop-i
invariant-loop-i l =
    (l.i ≤ l.len) × (length l.work ≡ length l.initial.work) × (l.work ≡ paste l.initial.work l.to (take l.len (drop
    l.from l.initial.work)) l.i)
