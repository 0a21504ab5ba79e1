-- What a project makes of a tree: keep and place (document 01's terms), merged left to right.
use Rattle.std.specs.Prelude.{List, [], ◌∷◌, map}
use Rattle.std.proofs.Math.Option.{Option, none, some}
use Rattle.spec_trees.specs.Options.{maybe}
use Rattle.spec_trees.specs.Tree.{Tree, node, void, ε, ◌▹◌, bare, label, labels, trees, bare_void, find}
use Rattle.spec_queries.specs.Query.{Path, Item, keep, place}
use Rattle.spec_stages.specs.Paths.{Given}
use Rattle.spec_stages.specs.Data.{value}
use Rattle.spec_stages.specs.Merge.{build}

unfoldable pub kept : Path → Tree → Tree
kept [] t = t
kept (k ∷ p) t = maybe bare_void (λ a. node void (label k (trees (map (kept p) a)) bare)) (find k (labels t))

-- void roots along the path, each inner label holding one tree, the last label holding a; no query places at the
-- empty path
unfoldable pub place_at : Path → List Tree → Tree
place_at [] a = bare_void
place_at (k ∷ []) a = node void (label k (trees a) bare)
place_at (k ∷ j ∷ p) a = node void (label k (place_at (j ∷ p) a ▹ ε) bare)

-- absent data gives the bare void tree
unfoldable pub placed : Path → Given → Tree
placed p none = bare_void
placed p (some a) = place_at p a

unfoldable pub item : Tree → Item → Tree
item t (keep p) = kept p t
item t (place d p) = placed p (value d t)

unfoldable pub projected : List Item → Tree → Option Tree
projected is t = build bare_void (map (item t) is)
