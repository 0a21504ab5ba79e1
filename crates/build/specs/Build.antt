-- What adding a part to a tree asks of the area, and does.
use Rattle.std.specs.Prelude.{◌≡◌, List, Bool, true, false, ◌&&◌, ℕ, ◌+◌, ◌≤◌, length, take, drop, leb, Err, Ok as At}
use Rattle.areas.specs.declared.span.Span.{Span}
use Rattle.spec_trees.specs.Limits.{tree_max, depth_max, work_min}
use Rattle.spec_trees.specs.Tree.{Tree}
use Rattle.spec_trees.specs.Size.{size, depth_a, fits}
use Rattle.spec_trees.specs.Bytes.{tree_bytes}
use Rattle.spec_trees.specs.Within.{Ok}
use Rattle.areas.specs.Area.{Is, IsAt, Out, too_large}
use Rattle.format.specs.Stand.{Says, trees_bytes}
use Rattle.spec_stages.specs.Merge.{merge}

-- o is whether the trees that stand there take at most as many levels as a tree may
abbrev pub DepthSaid : (w : List ℕ) (at : Span) → Bool → Type 0
DepthSaid w at o = Says trees_bytes (λ ts. leb (depth_a ts) depth_max) w at.from at.to o

-- a well formed tree stands there
pub record Standing (w : List ℕ) (at : Span) : Type 0 where
  pub tree : Tree
  pub ok : Ok tree
  pub tree_is : IsAt w at (tree_bytes tree)

-- the tree so far stands in w, and the part above it, written with room for one tree; above the part there is such room
pub record Addable (w : List ℕ) (built part_at : Span) : Type 0 where
  pub whole : Standing w built
  pub part : Standing w part_at
  pub above : built.to ≤ part_at.from
  pub part_room : part_at.to ≤ part_at.from + tree_max
  pub room : part_at.to + tree_max ≤ length w
  pub small : length w ≤ work_min

-- w became v when y, the part that ends at ie, was added to x at s: their merge stands at s, or y or the merge is too
-- large. Below s, and from wherever the scratch has ended, all is as it was
pub record PartAdded (w v : List ℕ) (s ie : ℕ) (x y : Tree) (r : Out) : Type 0 where
  pub fit : (e : ℕ) → r ≡ At e → (fits y && fits (merge x y)) ≡ true
  pub merge_is : (e : ℕ) → r ≡ At e → Is v s e (tree_bytes (merge x y))
  pub ends : (e : ℕ) → r ≡ At e → e ≡ s + size (merge x y)
  pub large : r ≡ Err too_large → (fits y && fits (merge x y)) ≡ false
  pub below : take s v ≡ take s w
  pub beyond : (top : ℕ) → ie + tree_max ≤ top → drop top v ≡ drop top w

-- whichever two well formed trees stand there
abbrev pub Added : (w v : List ℕ) (built part : Span) → Out → Type 0
Added w v built part r = (x y : Tree) → Ok x → Ok y → IsAt w built (tree_bytes x) → IsAt w part (tree_bytes y)
    → PartAdded w v built.from part.to x y r
