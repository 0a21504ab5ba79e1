-- What the tree of a class asks of the area, and what is made there. The members of the class stand one behind
-- another.
use Rattle.std.specs.Prelude.{List, ℕ, ◌+◌, ◌*◌, ◌≤◌, length}
use Rattle.spec_trees.specs.Limits.{tree_max, depth_max, aggregates_max, grouping_max, work_min}
use Rattle.spec_trees.specs.Tree.{Tree}
use Rattle.spec_trees.specs.Bytes.{tree_bytes}
use Rattle.spec_trees.specs.Within.{Allowed, AllowedA}
use Rattle.areas.specs.Area.{Is, IsAt, Out}
use Rattle.areas.specs.declared.span.Span.{Span}
use Rattle.spec_queries.specs.Query.{Pair}
use Rattle.spec_queries.specs.Rules.{OkPairs}
use Rattle.queries.specs.Places.{pairs_bytes, array_trees, HoldsOk, OkAt}
use Rattle.queries.specs.declared.stage.GroupAt.{GroupAt}
use Rattle.spec_stages.specs.Group.{class_tree}
use Rattle.spec_stages.specs.FitLaws.{ClassFits}
use Rattle.build.specs.Made.{Made}

-- in q the group's pairs stand; in w the first tree of the class, and the others behind it up to `end`, below s; the
-- class's totals fit; from s on there are three rooms
pub record ClassReady (w q : List ℕ) (at : GroupAt) (first_at : Span) (end s : ℕ) : Type 0 where
  pub aggregates : OkAt (OkPairs aggregates_max) pairs_bytes q at.aggregates
  pub grouping : OkAt (OkPairs grouping_max) pairs_bytes q at.keys
  pub first : OkAt (Allowed depth_max) tree_bytes w first_at
  pub rest : HoldsOk AllowedA array_trees w first_at.to end
  pub fits : ClassFits aggregates.value (first.value, rest.value)
  pub below : end ≤ s
  pub room : s + 3 * tree_max ≤ length w
  pub small : length w ≤ work_min

-- the tree of the class, of whatever pairs and trees stand there, was made at s
abbrev pub MakesClass : (w v q : List ℕ) (at : GroupAt) (first_at : Span) (end s : ℕ) → Out → Type 0
MakesClass w v q at first_at end s r = (ags gs : List Pair) (t : Tree) (ts : List Tree)
    → OkPairs aggregates_max ags → IsAt q at.aggregates (pairs_bytes ags) → OkPairs grouping_max gs → IsAt q at.keys (pairs_bytes gs)
    → Allowed depth_max t → IsAt w first_at (tree_bytes t) → AllowedA ts → Is w first_at.to end (array_trees ts) → ClassFits ags (t, ts)
    → Made w v s (class_tree ags gs (t, ts)) r
