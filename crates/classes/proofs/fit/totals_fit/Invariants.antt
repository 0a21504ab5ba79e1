use Rattle.std.proofs.Common.{Bool, ◌-◌}
use Rattle.areas.specs.Area.{span}
use Rattle.queries.specs.Places.{pairs_bytes, HoldsAt}
use Rattle.classes.specs.Fit.{PairsFit}
use Rattle.classes.proofs.fit.totals_fit.Given as goal

abbrev pub invariant-loop-at : goal.invariant-loop-at
invariant-loop-at l =
    HoldsAt pairs_bytes l.query (span l.at l.last) × ((r : Bool) → PairsFit l.work l.len l.query (span l.at l.last) r →
    PairsFit l.work l.len l.query (span l.initial.at l.last) r)

abbrev pub decreases-loop-at : goal.decreases-loop-at
decreases-loop-at l = l.last - l.at
