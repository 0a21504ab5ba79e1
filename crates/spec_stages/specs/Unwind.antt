-- What unwinding a tree by a path gives.
use Rattle.std.specs.Prelude.{List, [], ◌∷◌, map, ℕ}
use Rattle.spec_trees.specs.Options.{maybe}
use Rattle.spec_trees.specs.Lists.{gather}
use Rattle.spec_trees.specs.Tree.{Tree, node, ε, ◌▹◌, root, labels, find, put}
use Rattle.spec_queries.specs.Query.{Path}

-- a copy of t whose k holds just u
unfoldable pub holding : ℕ → Tree → Tree → Tree
holding k t u = node (root t) (put k (u ▹ ε) (labels t))

-- a tree without k, or whose outcome is empty, gives none
unfoldable pub unwound : Path → Tree → List Tree
unwound [] t = t ∷ []
unwound (k ∷ p) t = maybe [] (λ a. map (holding k t) (gather (unwound p) a)) (find k (labels t))
