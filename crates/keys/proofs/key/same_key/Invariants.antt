use Rattle.std.proofs.Common.{Bool}
use Rattle.format.specs.Stand.{Holds}
use Rattle.queries.specs.Places.{pairs_bytes}
use Rattle.areas.specs.Area.{span}
use Rattle.format.specs.Fields.{Going}
use Rattle.keys.specs.Keys.{AlikeIs}
use Rattle.keys.proofs.key.same_key.Given as goal

abbrev pub invariant-loop-pair : goal.invariant-loop-pair
invariant-loop-pair l =
    Going l.query l.fn.keys.to (λ at. Holds pairs_bytes l.query at l.fn.keys.to × ((r : Bool) → AlikeIs l.query (span at l.fn.keys.to) l.area l.tree l.area2 l.tree2
    r → AlikeIs l.query l.fn.keys l.area l.tree l.area2 l.tree2 r)) l.pair-iterator
