use Rattle.std.proofs.Common.{Bool, ◌+◌, ◌*◌, ◌-◌, leb}
use Rattle.spec_trees.specs.Size.{depth_a, depth_l}
use Rattle.format.specs.Stand.{trees_bytes, labels_bytes, Holds, Says}
use Rattle.format.proofs.depth.+nesting.Given as goal

abbrev pub decreases-labels_within : goal.decreases-labels_within
decreases-labels_within l = 2 * l.left + 1

abbrev pub decreases-trees_within : goal.decreases-trees_within
decreases-trees_within l = 2 * l.left

abbrev pub invariant-labels_within-loop-at : goal.invariant-labels_within-loop-at
invariant-labels_within-loop-at l =
    Holds labels_bytes l.area l.at l.end × ((r : Bool) → Says labels_bytes (λ ls. leb (depth_l ls) l.left) l.area l.at
    l.end r → Says labels_bytes (λ ls. leb (depth_l ls) l.left) l.area l.initial.at l.end r)

abbrev pub decreases-labels_within-loop-at : goal.decreases-labels_within-loop-at
decreases-labels_within-loop-at l = l.end - l.at

abbrev pub invariant-trees_within-loop-at : goal.invariant-trees_within-loop-at
invariant-trees_within-loop-at l =
    Holds trees_bytes l.area l.at l.end × ((r : Bool) → Says trees_bytes (λ ts. leb (depth_a ts) l.left) l.area l.at
    l.end r → Says trees_bytes (λ ts. leb (depth_a ts) l.left) l.area l.initial.at l.end r)

abbrev pub decreases-trees_within-loop-at : goal.decreases-trees_within-loop-at
decreases-trees_within-loop-at l = l.end - l.at
