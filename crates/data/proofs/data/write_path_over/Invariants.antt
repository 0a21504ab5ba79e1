use Rattle.std.proofs.Common.{◌≡◌, List, false, ℕ, ◌-◌, length}
use Rattle.format.specs.Stand.{trees_bytes}
use Rattle.areas.specs.Area.{span}
use Rattle.data.specs.Value.{Value}
use Rattle.paths.specs.Walk.{TellsJoined}
use Rattle.data.specs.Write.{WalkReady, WroteParts}
use Rattle.data.proofs.data.write_path_over.Given as goal

abbrev pub invariant-loop-from : goal.invariant-loop-from
invariant-loop-from l =
    WalkReady trees_bytes l.query l.path 0 l.work (span l.from l.end) (span l.to l.stop) 0 × (length l.work ≡ length
    l.initial.work) × ((u : List ℕ) (r : Value) → TellsJoined l.query l.path 0 l.work (span l.from l.end) (WroteParts 0
    l.any l.work u (span l.to l.stop) r) → TellsJoined l.query l.path 0 l.initial.work (span l.initial.from l.end)
    (WroteParts 0 false l.initial.work u (span l.initial.to l.stop) r))

abbrev pub decreases-loop-from : goal.decreases-loop-from
decreases-loop-from l = l.end - l.from
