-- What adding integer roots does: those of trees, where the trees stand, and those that a path gives.
use Rattle.std.specs.Prelude.{List, [], ◌∷◌, ℕ, ◌+◌, ◌≤◌}
use Rattle.spec_trees.specs.Lists.{All}
use Rattle.spec_trees.specs.Tree.{Tree, Trees, list}
use Rattle.spec_trees.specs.Bytes.{tree_bytes}
use Rattle.spec_trees.specs.Within.{Ok}
use Rattle.areas.specs.Area.{IsAt}
use Rattle.areas.specs.declared.span.Span.{Span}
use Rattle.format.specs.Stand.{trees_bytes}
use Rattle.spec_queries.specs.Query.{Route}
use Rattle.queries.specs.Places.{route_bytes, array_trees}
use Rattle.spec_stages.specs.Totals.{tree_integers, sum_of, total}
use Rattle.totals.specs.declared.exact.Total.{Total}
use Rattle.totals.specs.Exact.{middle, IsTotal, Sound, Adds}

-- ---- how many integers: fewer than the bytes of the part that is read, so that the total stays in range

-- t has room for the integers of the part
pub record Ready (t : Total) (part : Span) : Type 0 where
  pub sound : Sound t
  pub room : t.count + part.to ≤ middle + part.from

-- r has no more integers than t and the bytes of the part
pub record Summed (t r : Total) (part : Span) : Type 0 where
  pub sound : Sound r
  pub count : r.count + part.from ≤ t.count + part.to

-- ---- which integers: r is t with those more of the trees, if they are well formed
abbrev pub AddsTrees : Total → Total → List Tree → Type 0
AddsTrees t r ts = All Ok ts → Adds t r (sum_of (tree_integers ts))

-- of whatever tree stands in s there
abbrev pub AddsTree : (s : List ℕ) (at : Span) → Total → Total → Type 0
AddsTree s at t r = (u : Tree) → IsAt s at (tree_bytes u) → AddsTrees t r (u ∷ [])

-- of whatever trees do
abbrev pub AddsPart : (s : List ℕ) (part : Span) → Total → Total → Type 0
AddsPart s part t r = (ts : Trees) → IsAt s part (trees_bytes ts) → AddsTrees t r (list ts)

-- ---- the total of what the path gives over the array, of whatever path and well formed trees stand there
pub record TotalOver (q : List ℕ) (path_at : Span) (s : List ℕ) (trees_at : Span) (r : Total) : Type 0 where
  pub sound : Sound r
  pub total_is : (path : Route) (ts : List Tree) → IsAt q path_at (route_bytes path) → All Ok ts → IsAt s trees_at (array_trees ts) → IsTotal r (total path ts)
