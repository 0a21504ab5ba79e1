use Rattle.std.proofs.Common.{◌≡◌, List, ℕ, ◌-◌, length}
use Rattle.spec_trees.specs.Lists.{All}
use Rattle.spec_queries.specs.Rules.{OkI}
use Rattle.areas.specs.Area.{span, Out}
use Rattle.queries.specs.Places.{items_bytes}
use Rattle.project.specs.Project.{Building, BuildsFrom}
use Rattle.project.proofs.project.project.Given as goal

abbrev pub invariant-loop-from : goal.invariant-loop-from
invariant-loop-from l =
    Building (All OkI) items_bytes l.work l.query (span l.from l.end) l.tree (span l.at l.to) × (length l.work ≡ length
    l.initial.work) × ((v : List ℕ) (r : Out) → BuildsFrom l.work v l.query (span l.from l.end) l.tree (span l.at l.to)
    r → BuildsFrom l.initial.work v l.query (span l.initial.from l.end) l.tree (span l.at l.initial.to) r)

abbrev pub decreases-loop-from : goal.decreases-loop-from
decreases-loop-from l = l.end - l.from
