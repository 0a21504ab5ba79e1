use Rattle.std.proofs.Common.{◌≡◌, ℕ, ◌+◌, ◌*◌, ◌-◌, ◌<◌}
use Rattle.format.specs.Stand.{trees_bytes}
use Rattle.areas.specs.Area.{span}
use Rattle.paths.specs.Walk.{given, Walk, TellsJoined}
use Rattle.paths.specs.Hash.{hash_limit, trees_hash}
use Rattle.paths.proofs.hash.+hashing.Given as goal

abbrev pub decreases-hash_over : goal.decreases-hash_over
decreases-hash_over l = 2 * (l.path.to - l.i) + 1

abbrev pub decreases-hash_walk : goal.decreases-hash_walk
decreases-hash_walk l = 2 * (l.path.to - l.i)

abbrev pub invariant-hash_over-loop-at : goal.invariant-hash_over-loop-at
invariant-hash_over-loop-at l =
    Walk trees_bytes l.query l.path l.i l.area (span l.at l.end) × (l.h < hash_limit) × ((k : ℕ) → TellsJoined l.query
    l.path l.i l.area (span l.at l.end) (λ x. k ≡ trees_hash l.h (given x)) → TellsJoined l.query l.path l.i l.area
    (span l.initial.at l.end) (λ x. k ≡ trees_hash l.number (given x)))

abbrev pub decreases-hash_over-loop-at : goal.decreases-hash_over-loop-at
decreases-hash_over-loop-at l = l.end - l.at
