use Rattle.std.proofs.Common.{Bool}
use Rattle.spec_trees.specs.Lists.{All}
use Rattle.spec_queries.specs.Rules.{OkPair}
use Rattle.areas.specs.Area.{span}
use Rattle.format.specs.Fields.{Going}
use Rattle.queries.specs.Places.{pairs_bytes, HoldsOk}
use Rattle.trays.specs.TrayGroup.{ApartIs}
use Rattle.trays.proofs.tray_group.apart.Given as goal

abbrev pub invariant-loop-field : goal.invariant-loop-field
invariant-loop-field l =
    Going l.query l.end (λ at. HoldsOk (All OkPair) pairs_bytes l.query at l.end × ((r : Bool) → ApartIs l.query
    (span at l.end) l.others r → ApartIs l.query l.fn.pairs l.others r)) l.field-iterator
