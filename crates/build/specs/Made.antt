-- A tree that is built in an area of parts, each merged and tested: what is asked of the area, and what was made.
use Rattle.std.specs.Prelude.{◌≡◌, List, ℕ, ◌+◌, ◌*◌, ◌≤◌, length, take, drop, Some, Ok as At, Err}
use Rattle.std.proofs.Math.Option.{Option, none, some}
use Rattle.areas.specs.declared.span.Span.{Span}
use Rattle.spec_trees.specs.Limits.{tree_max, work_min}
use Rattle.spec_trees.specs.Tree.{Tree}
use Rattle.spec_trees.specs.Bytes.{tree_bytes}
use Rattle.spec_trees.specs.Within.{Ok}
use Rattle.areas.specs.Area.{Is, IsAt, span, Wrote, Out, too_large}
use Rattle.spec_queries.specs.Query.{Path}
use Rattle.queries.specs.Places.{path_bytes}
use Rattle.queries.specs.Steps.{step_count}
use Rattle.spec_stages.specs.Paths.{Given}
use Rattle.spec_stages.specs.Project.{placed}
use Rattle.build.specs.Build.{Standing, PartAdded}
use Rattle.data.specs.Value.{Value, WroteFound}
use Rattle.place.specs.Writers.{Along}
use Rattle.place.specs.Place.{place_room, room_at}

-- ---- what a stage made

-- x is a tree, which stands in v from s to e
pub record Stood (v : List ℕ) (s e : ℕ) (x : Option Tree) : Type 0 where
  pub tree : Tree
  pub same : x ≡ some tree
  pub stands : Is v s e (tree_bytes tree)

-- w became v when x was built at s: its tree stands there; or a tree was too large, and x is nothing. Below s, and from
-- three rooms above s on, all is as it was
pub record Made (w v : List ℕ) (s : ℕ) (x : Option Tree) (r : Out) : Type 0 where
  pub tree_is : (e : ℕ) → r ≡ At e → Stood v s e x
  pub large : r ≡ Err too_large → x ≡ none
  pub below : take s v ≡ take s w
  pub beyond : drop (s + 3 * tree_max) v ≡ drop (s + 3 * tree_max) w

-- ---- one part

-- the tree so far stands in w; a part was written behind its room with the answer r; there is a third room
pub record Adding (w : List ℕ) (built : Span) (r : Out) : Type 0 where
  pub whole : Standing w built
  pub within : built.to ≤ built.from + tree_max
  pub part : (e : ℕ) → r ≡ At e → Standing w (span (built.from + tree_max) e)
  pub part_room : (e : ℕ) → r ≡ At e → e ≤ built.from + tree_max + tree_max
  pub room : built.from + 3 * tree_max ≤ length w
  pub small : length w ≤ work_min

-- the part y was added to the tree x at s: w is the area before y was written
abbrev pub AddedAt : (w v : List ℕ) (s : ℕ) (x y : Tree) → Out → Type 0
AddedAt w v s x y r = PartAdded w v s (s + tree_max + tree_max) x y r

-- whatever tree stood there in u, and whatever part was written behind it to give w
abbrev pub Adds : (w v : List ℕ) (built : Span) → Out → Out → Type 0
Adds w v built r o = (u : List ℕ) (x y : Tree) → length u ≡ length w → Ok x → Ok y → IsAt u built (tree_bytes x)
    → Wrote u w (built.from + tree_max) (built.from + tree_max + tree_max) (tree_bytes y) r
    → AddedAt u v built.from x y o

-- ---- a value that is placed

-- a path stands in q, and a value was written behind the room for its heads
pub record ValueReady (w q : List ℕ) (target_at into : Span) (r : Value) : Type 0 where
  pub along : Along q target_at
  pub room : into.from + room_at q target_at (step_count q target_at) ≤ into.to
  pub inside : into.to ≤ length w
  pub small : length w ≤ work_min
  pub behind : (f : ℕ) → r ≡ At (Some f) → (into.from + room_at q target_at (step_count q target_at) ≤ f) × (f ≤ length w)

-- whatever path stands there and whatever was written in u to give w, its place is written
abbrev pub PlacesValue : (w v q : List ℕ) (target_at into : Span) → Value → Out → Type 0
PlacesValue w v q target_at into r o = (u : List ℕ) (path : Path) (x : Given) → length u ≡ length w
    → IsAt q target_at (path_bytes path) → 1 ≤ length path → WroteFound u w (into.from + place_room path) into.to x r
    → Wrote u v into.from into.to (tree_bytes (placed path x)) o
