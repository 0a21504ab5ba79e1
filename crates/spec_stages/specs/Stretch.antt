-- Stretches: the stages before the first group, or a group with the stages up to the next. Trees go through one by one.
use Rattle.std.specs.Prelude.{List, [], ◌∷◌, cond, leb}
use Rattle.spec_trees.specs.Limits.{array_max}
use Rattle.spec_trees.specs.Tree.{Tree}
use Rattle.spec_trees.specs.Size.{array_size}
use Rattle.spec_queries.specs.Query.{Stage}
use Rattle.spec_stages.specs.Stages.{is_group, too_long, State, going, large, halted, stages}

-- the stages before the next group
unfoldable pub before : List Stage → List Stage
before [] = []
before (s ∷ ss) = cond (is_group s) [] (s ∷ before ss)

-- the next group and all behind it
unfoldable pub behind : List Stage → List Stage
behind [] = []
behind (s ∷ ss) = cond (is_group s) (s ∷ ss) (behind ss)

-- ---- the first stretch with a fault decides
-- the first stretch, and those that begin with a group
unfoldable pub stretches : List Stage → List Stage × List (List Stage)
stretches [] = ([], [])
stretches (s ∷ ss) =
    let rest = stretches ss in
    cond (is_group s) ([], (s ∷ rest.0) ∷ rest.1) (s ∷ rest.0, rest.1)

-- The stretches that are left, and what the one before them came to: what stopped it decides, a total that does not
-- fit (12) where it began with a group, or a tree too large (8); else the array that it yields, where it enters a group
-- and is too long (9); else the next stretch
unfoldable pub decided : List Tree → List (List Stage) → State → State
decided us [] x = x
decided us (s ∷ rs) large = large
decided us (s ∷ rs) (halted h) = halted h
decided us (s ∷ rs) (going ts) = cond (leb (array_size ts) array_max) (decided us rs (stages us s (going ts))) (halted too_long)
