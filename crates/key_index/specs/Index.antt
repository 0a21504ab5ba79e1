-- The index of the trees that a group's array has, in the terms of the code: where its numbers stand, and what they
-- are when some of the trees are entered.
use Rattle.std.specs.Prelude.{◌≡◌, List, [], ◌∷◌, ◌++◌, Bool, cond, ℕ, ◌+◌, ◌-◌, ◌*◌, ◌%◌, ◌≤◌, ◌<◌, length}
use Rattle.spec_trees.specs.Limits.{array_max, depth_max, work_min}
use Rattle.spec_trees.specs.Tree.{Tree}
use Rattle.spec_trees.specs.Bytes.{tree_bytes}
use Rattle.spec_trees.specs.Within.{Allowed, AllowedA}
use Rattle.areas.specs.Area.{Is, IsAt}
use Rattle.areas.specs.declared.span.Span.{Span}
use Rattle.areas.specs.Number.{two_at}
use Rattle.spec_queries.specs.Query.{Pair}
use Rattle.queries.specs.Places.{pairs_bytes, array_trees}
use Rattle.spec_stages.specs.Group.{key, alike, sum}
use Rattle.spec_stages.specs.Classes.{unlike, scan}
use Rattle.spec_stages.specs.Positions.{Borne, unmarked}
use Rattle.keys.specs.Keys.{FewPairs}
use Rattle.keys.specs.KeyHash.{key_hash}
use Rattle.map.specs.Map.{trees_max, front_part, collected_at}
use Rattle.positions.specs.Bearing.{Bears}
use Rattle.key_index.specs.declared.index.Parts.{Parts}
use Rattle.key_index.specs.Links.{Spot, spots, Indexed}

-- ---- where the numbers stand
-- the numbers of the arranged trees, behind them
abbrev pub numbers_at : ℕ
numbers_at = array_max

-- the collected trees
abbrev pub base : ℕ
base = collected_at

-- how far below a tree its own numbers begin
abbrev pub distance : ℕ
distance = base - front_part

-- for the tree at a: the tree before it with the same slot, the tree behind it with the same key, and its mark
abbrev pub back_at : ℕ → ℕ
back_at a = a - distance

abbrev pub next_at : ℕ → ℕ
next_at a = a - (distance - 2)

abbrev pub mark_at : ℕ → ℕ
mark_at a = a - (distance - 4)

-- the last tree that was entered with the slot h
abbrev pub slots : ℕ
slots = 2048

abbrev pub heads_at : ℕ
heads_at = front_part + array_max

abbrev pub head_at : ℕ → ℕ
head_at h = heads_at + 2 * h

-- the subsets of the grouping pairs are below this
abbrev pub subsets_max : ℕ
subsets_max = 16

-- how many classes the subset m has
abbrev pub counts_at : ℕ
counts_at = heads_at + 2 * slots

abbrev pub count_at : ℕ → ℕ
count_at m = counts_at + 2 * m

-- the code's constants of these names: `index::all` answers this
abbrev pub parts : Parts
parts = record { numbers = numbers_at; heads = heads_at; slots = slots; subsets = subsets_max; counts = counts_at; trees = base; back = distance; next = distance - 2; mark = distance - 4 }

-- ---- what they are
abbrev pub size_of : Tree → ℕ
size_of t = length (tree_bytes t)

-- the trees where they stand
abbrev pub standing : List Tree → List (Spot Tree)
standing ts = spots size_of base ts

abbrev pub slot : List Pair → Tree → ℕ
slot gs t = key_hash (key gs t) % slots

-- the mark of a tree: its subset if it begins a class, otherwise a number that no subset is
unfoldable pub mark : ℕ → Bool → ℕ
mark m first = cond first m subsets_max

-- each tree's mark, behind those that were seen before it
abbrev pub Marks : List Pair → (ℕ → ℕ) → List Tree → List (Spot Tree) → Type 0
Marks gs marks seen [] = Unit {0}
Marks gs marks seen (s ∷ ss) = (marks s.0 ≡ mark (sum (key gs s.1)) (unlike gs seen s.1)) × Marks gs marks (seen ++ (s.1 ∷ [])) ss

pub record Index (w : List ℕ) (gs : List Pair) (ts : List Tree) : Type 0 where
  pub links : Indexed (alike gs) (slot gs) slots (λ a. two_at w (next_at a)) (λ a. two_at w (back_at a)) (λ h. two_at w (head_at h)) (standing ts)
  pub marks : Marks gs (λ a. two_at w (mark_at a)) [] (standing ts)
  pub counts : (m : ℕ) → m < subsets_max → two_at w (count_at m) ≡ length (scan gs m [] ts)

-- ---- a tree enters, behind those that are entered
pub record Entering (w q : List ℕ) (keys_at tree_at : Span) : Type 0 where
  pub size : length w ≡ work_min
  pub high : tree_at.to ≤ base + trees_max
  pub grouping : List Pair
  pub few : FewPairs grouping
  pub grouping_is : IsAt q keys_at (pairs_bytes grouping)
  pub seen : List Tree
  pub seen_ok : AllowedA seen
  pub seen_is : Is w base tree_at.from (array_trees seen)
  pub tree : Tree
  pub tree_ok_lem : Allowed depth_max tree
  pub tree_is : IsAt w tree_at (tree_bytes tree)
  pub index : Index w grouping seen

-- ---- all trees of the collected array, of n bytes, and the positions that they bear
pub record Collected (w q : List ℕ) (keys_at : Span) (n : ℕ) : Type 0 where
  pub size : length w ≡ work_min
  pub short : n ≤ trees_max
  pub grouping : List Pair
  pub few : FewPairs grouping
  pub grouping_is : IsAt q keys_at (pairs_bytes grouping)
  pub borne : List Borne
  pub trees_ok_lem : AllowedA (unmarked borne)
  pub trees_is : Is w base (base + n) (array_trees (unmarked borne))
  pub bears : Bears w 0 borne
