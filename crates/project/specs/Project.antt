-- What a project asks of the area, and what it makes there.
use Rattle.std.specs.Prelude.{List, map, ℕ, ◌+◌, ◌*◌, ◌≤◌, length}
use Rattle.spec_trees.specs.Limits.{tree_max, depth_max, nest_max, work_min}
use Rattle.spec_trees.specs.Lists.{All}
use Rattle.spec_trees.specs.Tree.{Tree}
use Rattle.spec_trees.specs.Bytes.{tree_bytes}
use Rattle.spec_trees.specs.Within.{Ok, Allowed}
use Rattle.areas.specs.Area.{IsAt, Wrote, Out}
use Rattle.areas.specs.declared.span.Span.{Span}
use Rattle.spec_queries.specs.Query.{Path, Data, Item}
use Rattle.spec_queries.specs.Rules.{OkP⁺, NestedD, OkI}
use Rattle.queries.specs.Places.{path_bytes, data_bytes, item_bytes, items_bytes, OkAt}
use Rattle.spec_stages.specs.Data.{value}
use Rattle.spec_stages.specs.Merge.{build}
use Rattle.spec_stages.specs.Project.{placed, item, projected}
use Rattle.build.specs.Build.{Standing}
use Rattle.data.specs.Write.{DataReady}
use Rattle.build.specs.Made.{AddedAt, Made}

-- items stand in q; a tree stands in w, below `at`, from where on there are three rooms
pub record ProjectReady (w q : List ℕ) (items_at tree_at : Span) (at : ℕ) : Type 0 where
  pub items : OkAt (All OkI) items_bytes q items_at
  pub tree : OkAt (Allowed depth_max) tree_bytes w tree_at
  pub below : tree_at.to ≤ at
  pub room : at + 3 * tree_max ≤ length w
  pub small : length w ≤ work_min

-- what the items, whichever stand there, make of the tree was made at `at`
abbrev pub Projects : (w v q : List ℕ) (items_at tree_at : Span) (at : ℕ) → Out → Type 0
Projects w v q items_at tree_at at r = (is : List Item) (t : Tree) → All OkI is → IsAt q items_at (items_bytes is)
    → Allowed depth_max t → IsAt w tree_at (tree_bytes t) → Made w v at (projected is t) r

-- ---- one item

-- data and a path stand in q; a tree stands in w, below the room, which is for one tree
pub record PlaceReady (w q : List ℕ) (data_at target_at tree_at into : Span) : Type 0 where
  pub ready : DataReady (NestedD nest_max) data_bytes q data_at w tree_at into
  pub target : OkAt OkP⁺ path_bytes q target_at
  pub tree_room : into.from + tree_max ≤ into.to

-- the place of what the data, whichever stand there, give of the tree was written
abbrev pub WritesPlace : (w v q : List ℕ) (data_at target_at tree_at into : Span) → Out → Type 0
WritesPlace w v q data_at target_at tree_at into r = (x : Data) (path : Path) (tree : Tree)
    → NestedD nest_max x → IsAt q data_at (data_bytes x) → OkP⁺ path → IsAt q target_at (path_bytes path)
    → Allowed depth_max tree → IsAt w tree_at (tree_bytes tree)
    → Wrote w v into.from into.to (tree_bytes (placed path (value x tree))) r

-- an item stands in q; a tree stands in w, below the room, which is for one tree
pub record ItemReady (w q : List ℕ) (item_at tree_at into : Span) : Type 0 where
  pub ready : DataReady OkI item_bytes q item_at w tree_at into
  pub tree_room : into.from + tree_max ≤ into.to

-- what the item, whichever stands there, makes of the tree was written
abbrev pub WritesItem : (w v q : List ℕ) (item_at tree_at into : Span) → Out → Type 0
WritesItem w v q item_at tree_at into r = (x : Item) (t : Tree) → OkI x → IsAt q item_at (item_bytes x)
    → Allowed depth_max t → IsAt w tree_at (tree_bytes t) → Wrote w v into.from into.to (tree_bytes (item t x)) r

-- ---- item by item

-- what P allows, of which f gives the bytes, stands in q, and the tree so far in w, behind the tree
pub record Building {A : Type 0} (P : A → Type 0) (f : A → List ℕ) (w q : List ℕ) (at tree_at built : Span) : Type 0 where
  pub asked : OkAt P f q at
  pub tree : OkAt (Allowed depth_max) tree_bytes w tree_at
  pub below : tree_at.to ≤ built.from
  pub whole : Standing w built
  pub within : built.to ≤ built.from + tree_max
  pub room : built.from + 3 * tree_max ≤ length w
  pub small : length w ≤ work_min

-- what the item makes of the tree was added to the tree so far
abbrev pub AddsItem : (w v q : List ℕ) (item_at tree_at built : Span) → Out → Type 0
AddsItem w v q item_at tree_at built r = (x : Item) (t z : Tree) → OkI x → IsAt q item_at (item_bytes x)
    → Allowed depth_max t → IsAt w tree_at (tree_bytes t) → Ok z → IsAt w built (tree_bytes z)
    → AddedAt w v built.from z (item t x) r

-- what the items make of the tree was built onto the tree so far
abbrev pub BuildsFrom : (w v q : List ℕ) (items_at tree_at built : Span) → Out → Type 0
BuildsFrom w v q items_at tree_at built r = (is : List Item) (t z : Tree) → All OkI is → IsAt q items_at (items_bytes is)
    → Allowed depth_max t → IsAt w tree_at (tree_bytes t) → Ok z → IsAt w built (tree_bytes z)
    → Made w v built.from (build z (map (item t) is)) r
