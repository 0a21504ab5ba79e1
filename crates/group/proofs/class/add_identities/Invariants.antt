use Rattle.std.proofs.Common.{◌≡◌, List, ℕ, ◌-◌, length}
use Rattle.areas.specs.Area.{span, Out}
use Rattle.group.specs.Grow.{sourced_part, Always, FirstAt, PairsReady, PairsGrow}
use Rattle.group.proofs.class.add_identities.Given as goal

abbrev pub invariant-loop-at : goal.invariant-loop-at
invariant-loop-at l =
    PairsReady (FirstAt l.first l.base) Always l.work l.query (span l.at l.last) (span l.base l.to) × (length l.work ≡
    length l.initial.work) × ((u : List ℕ) (r : Out) → PairsGrow (FirstAt l.first l.base) Always sourced_part l.work u
    l.query (span l.at l.last) (span l.base l.to) r → PairsGrow (FirstAt l.first l.base) Always sourced_part
    l.initial.work u l.query (span l.initial.at l.last) (span l.base l.initial.to) r)

abbrev pub decreases-loop-at : goal.decreases-loop-at
decreases-loop-at l = l.last - l.at
