-- What the entering of one tree into the index does, in the terms of the code.
use Rattle.std.specs.Prelude.{◌≡◌, List, ◌∷◌, [], ◌++◌, reverse, ◌≢◌, ◌⊎◌, ℕ, ◌+◌, ◌≤◌, ◌<◌, drop, eqb, Option, Some, None}
use Rattle.spec_trees.specs.Limits.{depth_max}
use Rattle.spec_trees.specs.Tree.{Tree}
use Rattle.spec_trees.specs.Bytes.{tree_bytes}
use Rattle.spec_trees.specs.Within.{Allowed}
use Rattle.areas.specs.Area.{Is, IsAt}
use Rattle.areas.specs.declared.span.Span.{Span}
use Rattle.areas.specs.Number.{two_at}
use Rattle.spec_queries.specs.Query.{Pair}
use Rattle.queries.specs.Places.{pairs_bytes}
use Rattle.spec_stages.specs.Group.{key, alike, sum}
use Rattle.spec_stages.specs.Positions.{unmarked}
use Rattle.map.specs.Map.{trees_max}
use Rattle.key_index.specs.Links.{Spot, down, first_of, Walk}
use Rattle.key_index.specs.Index.{base, back_at, next_at, slots, head_at, subsets_max, count_at, size_of, standing, slot, mark, Index, Entering, Collected}

-- r is where the head of the tree's slot stands
abbrev pub HeadIs : (q : List ℕ) (keys_at : Span) (w : List ℕ) (tree_at : Span) → ℕ → Type 0
HeadIs q keys_at w tree_at r = (gs : List Pair) (t : Tree) → IsAt q keys_at (pairs_bytes gs) → IsAt w tree_at (tree_bytes t)
    → r ≡ head_at (slot gs t)

-- ---- the search for the last tree with the same key
-- it begins at the last with the same slot
pub record Search (w q : List ℕ) (keys_at tree_at : Span) (last : ℕ) : Type 0 where
  pub entering : Entering w q keys_at tree_at
  pub last_is : last ≡ two_at w (head_at (slot entering.grouping entering.tree))

-- the last of those seen with the key of t; 0 is none
abbrev pub last_like : List Pair → List Tree → Tree → ℕ
last_like gs seen t = first_of (λ u. alike gs u t) (reverse (standing seen))

-- the tree that a number speaks of, as two bytes note it: 0 is none
pub record Noted (r : Option ℕ) (n : ℕ) : Type 0 where
  pub missing : r ≡ None → n ≡ 0
  pub there : (y : ℕ) → r ≡ Some y → (y ≡ n) × (y ≢ 0)

abbrev pub LastIs : (w q : List ℕ) (keys_at tree_at : Span) (last : ℕ) → Option ℕ → Type 0
LastIs w q keys_at tree_at last r = (s : Search w q keys_at tree_at last) → Noted r (last_like s.entering.grouping s.entering.seen s.entering.tree)

-- a tree stands there
pub record Stood (w : List ℕ) (s : Spot Tree) : Type 0 where
  pub ok : Allowed depth_max s.1
  pub stands : Is w s.0 (s.0 + size_of s.1) (tree_bytes s.1)
  pub above : base ≤ s.0
  pub within : s.0 + size_of s.1 ≤ base + trees_max

-- at `at` the search has the trees `left` before it
pub record Searching (w : List ℕ) (gs : List Pair) (seen : List Tree) (t : Tree) (at : ℕ) : Type 0 where
  pub below : ℕ
  pub left : List (Spot Tree)
  pub walk : Walk (Stood w) (down 6) (λ a. two_at w (back_at a)) below at left
  pub rest : first_of (λ u. alike gs u t) left ≡ last_like gs seen t

-- r is the mark of the tree, before which `like` is the last with its key
abbrev pub MarkIs : (q : List ℕ) (keys_at : Span) (w : List ℕ) (tree_at : Span) (like : Option ℕ) → ℕ → Type 0
MarkIs q keys_at w tree_at like r = (gs : List Pair) (t : Tree) → IsAt q keys_at (pairs_bytes gs) → IsAt w tree_at (tree_bytes t)
    → (n : ℕ) → Noted like n → r ≡ mark (sum (key gs t)) (eqb n 0)

-- ---- what is stored
-- under the condition P the number n is stored at a; numbers that do not overlap it stay
pub record StoredIf (P : Type 0) (w v : List ℕ) (a n : ℕ) : Type 0 where
  pub set : P → two_at v a ≡ n
  pub others : (b : ℕ) → (P → (b + 2 ≤ a) ⊎ (a + 2 ≤ b)) → two_at v b ≡ two_at w b
  pub beyond : drop base v ≡ drop base w

-- the link of y, unless that is 0, leads to x
abbrev pub LinkedAt : (w v : List ℕ) (y x : ℕ) → Type 0
LinkedAt w v y x = StoredIf (y ≢ 0) w v (next_at y) x

-- the link of `like`, if there is one, leads to x
abbrev pub Linked : (w v : List ℕ) (like : Option ℕ) (x : ℕ) → Type 0
Linked w v like x = (y : ℕ) → Noted like y → LinkedAt w v y x

-- the classes of the subset m, if it is one, are one more
abbrev pub Counted : (w v : List ℕ) (m : ℕ) → Type 0
Counted w v m = StoredIf (m < subsets_max) w v (count_at m) (two_at w (count_at m) + 1)

-- the tree has entered
pub record Enters (w v q : List ℕ) (keys_at tree_at : Span) : Type 0 where
  pub beyond : drop base v ≡ drop base w
  pub index : (e : Entering w q keys_at tree_at) → Index v e.grouping (e.seen ++ (e.tree ∷ []))

-- ---- no tree is entered, and all are
pub record Cleared (w v : List ℕ) : Type 0 where
  pub blank : (h : ℕ) → h < slots → two_at v (head_at h) ≡ 0
  pub uncounted : (m : ℕ) → m < subsets_max → two_at v (count_at m) ≡ 0
  pub beyond : drop base v ≡ drop base w

pub record EntersAll (w v q : List ℕ) (keys_at : Span) (n : ℕ) : Type 0 where
  pub beyond : drop base v ≡ drop base w
  pub index : (c : Collected w q keys_at n) → Index v c.grouping (unmarked c.borne)
