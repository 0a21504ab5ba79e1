use Rattle.std.proofs.Common.{◌≡◌, List, ℕ, ◌+◌, ◌*◌, ◌-◌, length}
use Rattle.areas.specs.Area.{span}
use Rattle.unwind.specs.declared.unwind.Nth.{Nth}
use Rattle.place.specs.Writers.{WriterReady}
use Rattle.unwind.specs.Outcomes.{sounds_bytes, RoomFor, PutsNthEach}
use Rattle.unwind.proofs.unwind.+putting.Given as goal

abbrev pub decreases-put_nth : goal.decreases-put_nth
decreases-put_nth l = 2 * (l.path.to - l.i)

abbrev pub decreases-put_nth_each : goal.decreases-put_nth_each
decreases-put_nth_each l = 2 * (l.path.to - l.i) + 1

abbrev pub invariant-put_nth_each-loop-at : goal.invariant-put_nth_each-loop-at
invariant-put_nth_each-loop-at l =
    (WriterReady sounds_bytes l.work l.query l.path l.i (span l.at l.end) l.room × RoomFor (span l.at l.end) l.room) ×
    (length l.work ≡ length l.initial.work) × ((v : List ℕ) (r : Nth) → PutsNthEach l.work v l.query l.path l.i (span
    l.at l.end) l.left l.room r → PutsNthEach l.initial.work v l.query l.path l.i (span l.initial.at l.end) l.j l.room
    r)

abbrev pub decreases-put_nth_each-loop-at : goal.decreases-put_nth_each-loop-at
decreases-put_nth_each-loop-at l = l.end - l.at
