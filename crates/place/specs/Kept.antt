-- What the writers of kept trees promise.
use Rattle.std.specs.Prelude.{List, map, ℕ, drop}
use Rattle.spec_trees.specs.Tree.{Tree, Trees, list, trees}
use Rattle.spec_trees.specs.Bytes.{tree_bytes}
use Rattle.areas.specs.Area.{IsAt, Wrote, Out}
use Rattle.areas.specs.declared.span.Span.{Span}
use Rattle.format.specs.Stand.{trees_bytes}
use Rattle.spec_queries.specs.Query.{Path}
use Rattle.queries.specs.Places.{path_bytes}
use Rattle.spec_stages.specs.Project.{kept}

-- the keep of each tree of an array
unfoldable pub kept_trees : Path → Trees → Trees
kept_trees p ts = trees (map (kept p) (list ts))

-- whatever path stands in q there, and whatever tree, or array's trees, in w: its keep by the path from step i on is
-- written into the room
abbrev pub Keeps : (w v q : List ℕ) (path_at : Span) (i : ℕ) (tree_at into : Span) → Out → Type 0
Keeps w v q path_at i tree_at into r = (path : Path) (t : Tree) → IsAt q path_at (path_bytes path) → IsAt w tree_at (tree_bytes t)
    → Wrote w v into.from into.to (tree_bytes (kept (drop i path) t)) r

abbrev pub KeepsEach : (w v q : List ℕ) (path_at : Span) (i : ℕ) (trees_at into : Span) → Out → Type 0
KeepsEach w v q path_at i trees_at into r =
    (path : Path) (ts : Trees) → IsAt q path_at (path_bytes path) → IsAt w trees_at (trees_bytes ts)
    → Wrote w v into.from into.to (trees_bytes (kept_trees (drop i path) ts)) r
