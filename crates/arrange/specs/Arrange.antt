-- What arranging asks of the areas, and what it does. Trees are copied to the front of the work area, each with a
-- number behind them.
use Rattle.std.specs.Prelude.{◌≡◌, List, [], ◌∷◌, ◌++◌, map, ◌≢◌, ℕ, ◌+◌, ◌-◌, ◌*◌, ◌≤◌, ◌<◌, length, drop}
use Rattle.spec_trees.specs.Limits.{work_min}
use Rattle.spec_trees.specs.Lists.{gather}
use Rattle.spec_trees.specs.Tree.{Tree}
use Rattle.spec_trees.specs.Bytes.{tree_bytes}
use Rattle.spec_trees.specs.Within.{AllowedA}
use Rattle.areas.specs.Area.{Is, IsAt}
use Rattle.areas.specs.declared.span.Span.{Span}
use Rattle.areas.specs.Number.{two_at, two_bytes}
use Rattle.spec_queries.specs.Query.{Pair}
use Rattle.queries.specs.Places.{array_trees}
use Rattle.spec_stages.specs.Group.{Class, grouped}
use Rattle.spec_stages.specs.Classes.{scan}
use Rattle.spec_stages.specs.Flat.{members, flat}
use Rattle.spec_stages.specs.Positions.{Borne, unmarked, origin}
use Rattle.keys.specs.Keys.{FewPairs}
use Rattle.map.specs.Map.{trees_max, front_part, position_at}
use Rattle.positions.specs.Bearing.{Bears}
use Rattle.key_index.specs.declared.front.Reached.{Reached}
use Rattle.key_index.specs.Links.{Spot, elements, up, Walk}
use Rattle.key_index.specs.Index.{numbers_at, base, next_at, subsets_max, Index, Collected}
use Rattle.key_index.specs.Entering.{Stood}

-- ---- trees with their numbers
-- the first has n, the others 0
unfoldable pub headed : ℕ → List Tree → List (ℕ × Tree)
headed n [] = []
headed n (t ∷ ts) = (n, t) ∷ headed 0 ts

-- class behind class: where one begins stands the position p of its first tree
unfoldable pub arranged : (Tree → ℕ) → List Class → List (ℕ × Tree)
arranged p cs = gather (λ c. headed (p c.0) (members c)) cs

abbrev pub trees_of : List (ℕ × Tree) → List Tree
trees_of ms = map (λ m. m.1) ms

unfoldable pub number_bytes : List (ℕ × Tree) → List ℕ
number_bytes ms = gather (λ m. two_bytes m.0) ms

-- what stands behind the numbers: the index, and the collected trees
abbrev pub index_at : ℕ
index_at = front_part

-- ---- the front: these trees stand there, and their numbers
pub record Front (w : List ℕ) (f : Reached) (ms : List (ℕ × Tree)) : Type 0 where
  pub trees_is : Is w 0 f.to (array_trees (trees_of ms))
  pub numbers_is : Is w numbers_at (numbers_at + 2 * f.count) (number_bytes ms)

-- there is room for n more bytes of trees; none has fewer than six, so there is for their numbers
pub record Room (w : List ℕ) (f : Reached) (n : ℕ) : Type 0 where
  pub size : length w ≡ work_min
  pub sparse : 6 * f.count ≤ f.to
  pub fits : f.to + n ≤ trees_max

-- ns were put there; from the index on all is as it was
pub record Grows (w v : List ℕ) (f r : Reached) (ns : List (ℕ × Tree)) : Type 0 where
  pub to_is : r.to ≡ f.to + length (array_trees (trees_of ns))
  pub sparse : 6 * f.count ≤ f.to → 6 * r.count ≤ r.to
  pub front : (ms : List (ℕ × Tree)) → Front w f ms → Front v r (ms ++ ns)
  pub same : length v ≡ length w
  pub kept : drop index_at v ≡ drop index_at w

-- ---- one tree
abbrev pub Placed : (w v : List ℕ) (tree_at : Span) (n : ℕ) (f r : Reached) → Type 0
Placed w v tree_at n f r = (t : Tree) → IsAt w tree_at (tree_bytes t) → Grows w v f r ((n, t) ∷ [])

-- ---- the trees that the links lead through, from x, where one stands; the first gets the position that it bears
pub record Following (w : List ℕ) (x : ℕ) (f : Reached) : Type 0 where
  pub some : x ≢ 0
  pub left : List (Spot Tree)
  pub below : ℕ
  pub walk : Walk (Stood w) (up 6) (λ a. two_at w (next_at a)) below x left
  pub room : Room w f (length (array_trees (elements left)))

abbrev pub Follows : (w v : List ℕ) (x : ℕ) (f r : Reached) → Type 0
Follows w v x f r = (l : Following w x f) → Grows w v f r (headed (two_at w (position_at (x - base))) (elements l.left))

-- ---- the classes of the subset m
pub record Subset (w : List ℕ) (n m : ℕ) (f : Reached) : Type 0 where
  pub short : n ≤ trees_max
  pub grouping : List Pair
  pub few : FewPairs grouping
  pub borne : List Borne
  pub trees_ok_lem : AllowedA (unmarked borne)
  pub trees_is : Is w base (base + n) (array_trees (unmarked borne))
  pub bears : Bears w 0 borne
  pub index : Index w grouping (unmarked borne)
  pub below : m < subsets_max
  pub room : Room w f (length (array_trees (flat (scan grouping m [] (unmarked borne)))))

abbrev pub SubsetArranged : (w v : List ℕ) (n m : ℕ) (f r : Reached) → Type 0
SubsetArranged w v n m f r = (s : Subset w n m f)
    → Grows w v f r (arranged (λ t. origin s.grouping t s.borne) (scan s.grouping m [] (unmarked s.borne)))

-- ---- all classes: they stand at the front, up to n, and their numbers behind them
pub record Arranged (w : List ℕ) (n : ℕ) (p : Tree → ℕ) (cs : List Class) : Type 0 where
  pub trees_is : Is w 0 n (array_trees (flat cs))
  pub numbers_is : Is w numbers_at (numbers_at + length (number_bytes (arranged p cs))) (number_bytes (arranged p cs))

abbrev pub Arranges : (w v q : List ℕ) (keys_at : Span) (n : ℕ) → Type 0
Arranges w v q keys_at n = (c : Collected w q keys_at n)
    → Arranged v n (λ t. origin c.grouping t c.borne) (grouped c.grouping (unmarked c.borne))
