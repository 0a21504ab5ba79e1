use Rattle.std.proofs.Common.{ℕ, ◌*◌}
use Rattle.areas.specs.Area.{span}
use Rattle.format.specs.Fields.{Going}
use Rattle.queries.specs.Places.{pairs_bytes, HoldsOk}
use Rattle.keys.specs.KeyLaws.{WeightFits}
use Rattle.keys.specs.Keys.{SubsetsIs}
use Rattle.keys.proofs.key.subsets.Given as goal

abbrev pub invariant-loop-pair : goal.invariant-loop-pair
invariant-loop-pair l =
    Going l.query l.fn.keys.to (λ at. HoldsOk (WeightFits l.n) pairs_bytes l.query at l.fn.keys.to × ((c : ℕ) → SubsetsIs l.query (span at l.fn.keys.to) c →
    SubsetsIs l.query l.fn.keys (l.n * c))) l._pair-iterator
