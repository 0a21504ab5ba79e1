use Rattle.std.proofs.Common.{◌+◌, ◌*◌, ◌-◌, ◌≤◌, length}
use Rattle.format.specs.Stand.{trees_bytes}
use Rattle.areas.specs.Area.{span}
use Rattle.paths.specs.Walk.{given_bytes, Walk, TellsJoined, ComparedIs, Compared}
use Rattle.paths.proofs.path.+matching.Given as goal

abbrev pub decreases-matches_at : goal.decreases-matches_at
decreases-matches_at l = 2 * (l.path.to - l.i)

abbrev pub decreases-matches_over : goal.decreases-matches_over
decreases-matches_over l = 2 * (l.path.to - l.i) + 1

abbrev pub invariant-matches_over-loop-from : goal.invariant-matches_over-loop-from
invariant-matches_over-loop-from l =
    Walk trees_bytes l.query l.path l.i l.area (span l.from l.end) × (l.n ≤ length l.other) × ((r : Compared) →
    TellsJoined l.query l.path l.i l.area (span l.from l.end) (λ x. ComparedIs l.other l.n (given_bytes x) r) →
    TellsJoined l.query l.path l.i l.area (span l.initial.from l.end) (λ x. ComparedIs l.other l.at (given_bytes x) r))

abbrev pub decreases-matches_over-loop-from : goal.decreases-matches_over-loop-from
decreases-matches_over-loop-from l = l.end - l.from
