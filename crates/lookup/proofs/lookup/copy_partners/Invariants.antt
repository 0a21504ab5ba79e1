use Rattle.std.proofs.Common.{◌≡◌, List, ℕ, ◌-◌, length}
use Rattle.spec_trees.specs.Within.{AllowedA}
use Rattle.areas.specs.Area.{span, Out}
use Rattle.queries.specs.Places.{array_trees}
use Rattle.lookup.specs.Lookup.{Matching, CopiesPartners}
use Rattle.lookup.proofs.lookup.copy_partners.Given as goal

abbrev pub invariant-loop-from : goal.invariant-loop-from
invariant-loop-from l =
    Matching AllowedA array_trees l.work l.query l.at l.tree l.joined (span l.from l.end) (span l.to l.stop) × (length
    l.work ≡ length l.initial.work) × ((v : List ℕ) (r : Out) → CopiesPartners l.work v l.query l.at l.tree l.joined
    (span l.from l.end) (span l.to l.stop) r → CopiesPartners l.initial.work v l.query l.at l.tree l.joined (span
    l.initial.from l.end) (span l.initial.to l.stop) r)

abbrev pub decreases-loop-from : goal.decreases-loop-from
decreases-loop-from l = l.end - l.from
