use Rattle.std.proofs.Common.{Bool}
use Rattle.areas.specs.Area.{span}
use Rattle.format.specs.Stand.{Holds}
use Rattle.format.specs.Fields.{Going}
use Rattle.queries.specs.Places.{pairs_bytes}
use Rattle.trays.specs.TrayGroup.{NoTotalsIs}
use Rattle.trays.proofs.tray_group.no_totals.Given as goal

abbrev pub invariant-loop-pair : goal.invariant-loop-pair
invariant-loop-pair l =
    Going l.query l.fn.pairs.to (λ at. Holds pairs_bytes l.query at l.fn.pairs.to × ((r : Bool) → NoTotalsIs l.query
    (span at l.fn.pairs.to) r → NoTotalsIs l.query l.fn.pairs r)) l.pair-iterator
