use Rattle.std.proofs.Common.{◌≡◌, List, false, ℕ, ◌+◌, ◌*◌, ◌-◌, ◌≤◌, length, take}
use Rattle.format.specs.Stand.{trees_bytes}
use Rattle.areas.specs.Area.{span}
use Rattle.data.specs.Value.{Value}
use Rattle.paths.specs.Walk.{TellsJoined}
use Rattle.data.specs.Write.{WalkReady, WroteParts}
use Rattle.data.proofs.data.+walking.Given as goal

abbrev pub decreases-write_over : goal.decreases-write_over
decreases-write_over l = 2 * (l.path.to - l.i) + 1

abbrev pub decreases-write_walk : goal.decreases-write_walk
decreases-write_walk l = 2 * (l.path.to - l.i)

abbrev pub invariant-write_over-loop-from : goal.invariant-write_over-loop-from
invariant-write_over-loop-from l =
    WalkReady trees_bytes l.query l.path l.i l.work (span l.from l.end) (span l.to l.stop) l.divisor × (l.initial.to ≤
    l.to) × (length l.work ≡ length l.initial.work) × (take l.initial.to l.work ≡ take l.initial.to l.initial.work) ×
    ((u : List ℕ) (r : Value) → TellsJoined l.query l.path l.i l.work (span l.from l.end) (WroteParts l.divisor l.any
    l.work u (span l.to l.stop) r) → TellsJoined l.query l.path l.i l.initial.work (span l.initial.from l.end)
    (WroteParts l.divisor false l.initial.work u (span l.initial.to l.stop) r))

abbrev pub decreases-write_over-loop-from : goal.decreases-write_over-loop-from
decreases-write_over-loop-from l = l.end - l.from
