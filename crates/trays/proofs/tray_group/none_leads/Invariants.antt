use Rattle.std.proofs.Common.{Bool}
use Rattle.spec_trees.specs.Lists.{All}
use Rattle.spec_queries.specs.Rules.{OkPair}
use Rattle.areas.specs.Area.{span}
use Rattle.format.specs.Fields.{Going}
use Rattle.queries.specs.Places.{pairs_bytes, HoldsOk}
use Rattle.trays.specs.TrayGroup.{NoneLeadsIs}
use Rattle.trays.proofs.tray_group.none_leads.Given as goal

abbrev pub invariant-loop-field : goal.invariant-loop-field
invariant-loop-field l =
    Going l.query l.fn.pairs.to (λ at. HoldsOk (All OkPair) pairs_bytes l.query at l.fn.pairs.to × ((r : Bool) → NoneLeadsIs l.query
    (span at l.fn.pairs.to) l.label r → NoneLeadsIs l.query l.fn.pairs l.label r)) l.field-iterator
