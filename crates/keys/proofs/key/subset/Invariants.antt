use Rattle.std.proofs.Common.{ℕ, ◌+◌, ◌*◌, ◌<◌}
use Rattle.queries.specs.Places.{pairs_bytes, HoldsOk}
use Rattle.areas.specs.Area.{span}
use Rattle.format.specs.Fields.{Going}
use Rattle.keys.specs.Keys.{SubsetIs}
use Rattle.keys.specs.KeyLaws.{WeightFits}
use Rattle.keys.proofs.key.subset.Given as goal

abbrev pub invariant-loop-pair : goal.invariant-loop-pair
invariant-loop-pair l =
    Going l.query l.fn.keys.to (λ at. (l.sum < l.weight) × HoldsOk (WeightFits l.weight) pairs_bytes l.query at l.fn.keys.to × ((n : ℕ) → SubsetIs l.query
    (span at l.fn.keys.to) l.area l.tree n → SubsetIs l.query l.fn.keys l.area l.tree (l.sum + l.weight * n))) l.pair-iterator
