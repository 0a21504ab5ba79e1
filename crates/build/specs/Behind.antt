-- A part that goes behind a tree as it is, and what readers say of it.
use Rattle.std.specs.Prelude.{◌≡◌, List, Bool, true, ℕ, ◌≤◌, ◌<◌}
use Rattle.spec_trees.specs.Tree.{Tree, Labels, bare, label, root, labels}
use Rattle.spec_trees.specs.Bytes.{tree_bytes}
use Rattle.spec_trees.specs.Within.{Ok, OkL}
use Rattle.areas.specs.Area.{IsAt}
use Rattle.areas.specs.declared.span.Span.{Span}
use Rattle.format.specs.Stand.{labels_bytes}
use Rattle.spec_stages.specs.Merge.{merge_root}

-- no label of ls is above n
abbrev pub AtMost : Labels → ℕ → Type 0
AtMost bare n = Unit {0}
AtMost (label k a ls) n = (k ≤ n) × AtMost ls n

-- the first label of ms, if it has any, is above k
abbrev pub Above : ℕ → Labels → Type 0
Above k bare = Unit {0}
Above k (label j b ms) = k < j

-- and so for each label of ls
abbrev pub Apart : Labels → Labels → Type 0
Apart bare ms = Unit {0}
Apart (label k a ls) ms = Above k ms × Apart ls ms

-- the labels of ls, and then those of ms
unfoldable pub join_l : Labels → Labels → Labels
join_l bare ms = ms
join_l (label k a ls) ms = label k a (join_l ls ms)

-- y leaves the root of x, and its labels come after those of x
pub record Behind (x y : Tree) : Type 0 where
  pub root_left : merge_root (root x) (root y) ≡ root x
  pub apart : Apart (labels x) (labels y)

-- ---- what readers say, of whatever well formed trees stand there

-- r is no less than any of the labels
abbrev pub LastIs : (s : List ℕ) (labels_at : Span) → ℕ → Type 0
LastIs s labels_at r = (ls : Labels) → OkL ls 0 → IsAt s labels_at (labels_bytes ls) → AtMost ls r

-- if r is true, the part goes behind the tree so far
abbrev pub GoesBehind : (w : List ℕ) (built part : Span) → Bool → Type 0
GoesBehind w built part r = (x y : Tree) → Ok x → IsAt w built (tree_bytes x) → IsAt w part (tree_bytes y)
    → r ≡ true → Behind x y
