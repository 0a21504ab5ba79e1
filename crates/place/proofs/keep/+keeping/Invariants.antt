use Rattle.std.proofs.Common.{◌≡◌, List, ℕ, ◌+◌, ◌*◌, ◌-◌, length}
use Rattle.format.specs.Stand.{trees_bytes}
use Rattle.areas.specs.Area.{span, Out}
use Rattle.place.specs.Writers.{WriterReady}
use Rattle.place.specs.Kept.{KeepsEach}
use Rattle.place.proofs.keep.+keeping.Given as goal

abbrev pub decreases-keep : goal.decreases-keep
decreases-keep l = 2 * (l.path.to - l.i)

abbrev pub decreases-keep_each : goal.decreases-keep_each
decreases-keep_each l = 2 * (l.path.to - l.i) + 1

abbrev pub invariant-keep_each-loop-from : goal.invariant-keep_each-loop-from
invariant-keep_each-loop-from l =
    WriterReady trees_bytes l.work l.query l.path l.i (span l.from l.end) (span l.at l.stop) × (length l.work ≡ length
    l.initial.work) × ((v : List ℕ) (r : Out) → KeepsEach l.work v l.query l.path l.i (span l.from l.end) (span l.at
    l.stop) r → KeepsEach l.initial.work v l.query l.path l.i (span l.initial.from l.end) (span l.initial.at l.stop) r)

abbrev pub decreases-keep_each-loop-from : goal.decreases-keep_each-loop-from
decreases-keep_each-loop-from l = l.end - l.from
