-- What a lookup asks of a tree and a joined tree, read where the paths and the trees stand, in the terms of the code.
use Rattle.std.specs.Prelude.{◌≡◌, List, Bool, ℕ}
use Rattle.spec_trees.specs.Tree.{Tree}
use Rattle.spec_trees.specs.Bytes.{tree_bytes}
use Rattle.areas.specs.Area.{IsAt}
use Rattle.areas.specs.declared.span.Span.{Span}
use Rattle.spec_trees.specs.Limits.{depth_max}
use Rattle.spec_trees.specs.Within.{Allowed}
use Rattle.spec_queries.specs.Query.{Route}
use Rattle.queries.specs.Places.{route_bytes}
use Rattle.spec_stages.specs.Lookup.{matches}

-- whether the joined tree, which stands in j, matches the tree, which stands in s, by the paths of the two
abbrev pub JoinsIs : (q : List ℕ) (own_at theirs_at : Span) (s : List ℕ) (tree_at : Span) (j : List ℕ) (joined_at : Span) → Bool → Type 0
JoinsIs q own_at theirs_at s tree_at j joined_at r =
    (own theirs : Route) (t u : Tree) → IsAt q own_at (route_bytes own) → IsAt q theirs_at (route_bytes theirs)
    → Allowed depth_max t → IsAt s tree_at (tree_bytes t) → Allowed depth_max u → IsAt j joined_at (tree_bytes u)
    → r ≡ matches own theirs t u
