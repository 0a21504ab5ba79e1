use Rattle.std.proofs.Common.{ℕ, ◌-◌, ◌<◌}
use Rattle.spec_trees.specs.Tree.{list}
use Rattle.format.specs.Stand.{trees_bytes, Holds, Says}
use Rattle.paths.specs.Hash.{hash_limit, trees_hash}
use Rattle.paths.proofs.hash.hash_trees.Given as goal

abbrev pub invariant-loop-at : goal.invariant-loop-at
invariant-loop-at l =
    Holds trees_bytes l.area l.at l.end × (l.h < hash_limit) × ((k : ℕ) → Says trees_bytes (λ ts. trees_hash l.h (list
    ts)) l.area l.at l.end k → Says trees_bytes (λ ts. trees_hash l.number (list ts)) l.area l.initial.at l.end k)

abbrev pub decreases-loop-at : goal.decreases-loop-at
decreases-loop-at l = l.end - l.at
