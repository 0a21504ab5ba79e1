-- The positions that the collected trees bear, in the terms of the code.
use Rattle.std.specs.Prelude.{◌≡◌, List, [], ◌∷◌, ℕ, ◌+◌, ◌≤◌, length, take}
use Rattle.spec_trees.specs.Limits.{positions_min, work_min}
use Rattle.spec_trees.specs.Tree.{Tree}
use Rattle.spec_trees.specs.Bytes.{tree_bytes}
use Rattle.areas.specs.Area.{Is}
use Rattle.areas.specs.Number.{two_at}
use Rattle.queries.specs.Places.{array_trees}
use Rattle.spec_stages.specs.Positions.{Borne, marked, numbered}
use Rattle.map.specs.Map.{trees_max, lent_part, collected_at, position_at}

-- the trees of an array bear 1 to 2,730
abbrev pub Position : ℕ → Type 0
Position i = (1 ≤ i) × (i ≤ positions_min)

-- the trees bs, of which the first stands at x, bear these positions
unfoldable pub Bears : List ℕ → ℕ → List Borne → Type 0
Bears w x [] = Unit {0}
Bears w x (b ∷ bs) = (two_at w (position_at x) ≡ b.position) × Bears w (x + length (tree_bytes b.tree)) bs

-- trees that bear k, and each d more than the one before it
unfoldable pub stepped : ℕ → ℕ → List Tree → List Borne
stepped k d [] = []
stepped k d (t ∷ ts) = record { position = k; tree = t } ∷ stepped (k + d) d ts

-- collected trees stand from a to b
abbrev pub StandFrom : List ℕ → ℕ → ℕ → List Tree → Type 0
StandFrom w a b ts = Is w (collected_at + a) (collected_at + b) (array_trees ts)

pub record Standing (w : List ℕ) (a b : ℕ) : Type 0 where
  pub size : length w ≡ work_min
  pub trees : List Tree
  pub trees_are : StandFrom w a b trees
  pub short : b ≤ trees_max

-- w became v: whatever trees they are, they bear these positions; before the first of these all is as it was
pub record Bearing (w v : List ℕ) (a b k d : ℕ) : Type 0 where
  pub kept : take (position_at a) v ≡ take (position_at a) w
  pub bears : (ts : List Tree) → StandFrom w a b ts → Bears v a (stepped k d ts)

-- they all bear k
pub record Marks (w v : List ℕ) (a b k : ℕ) : Type 0 where
  pub kept : take (position_at a) v ≡ take (position_at a) w
  pub bears : (ts : List Tree) → StandFrom w a b ts → Bears v a (marked k ts)

-- all trees bear 1, 2 and so on
pub record Numbers (w v : List ℕ) (n : ℕ) : Type 0 where
  pub kept : take lent_part v ≡ take lent_part w
  pub bears : (ts : List Tree) → StandFrom w 0 n ts → Bears v 0 (numbered 1 ts)
