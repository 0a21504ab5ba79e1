-- Queries: paths, criteria, data, items, pairs and stages.
use Rattle.std.specs.Prelude.{List, [], ◌∷◌, Bool, true, false, ◌&&◌, ℕ, length, leb}
use Rattle.spec_trees.specs.Limits.{path_max, divisor_max}
use Rattle.spec_trees.specs.Lists.{all}
use Rattle.spec_trees.specs.Tree.{Tree, is_label}

-- labels, the outermost first: a path that is unwound, kept or placed at
abbrev pub Path : Type 0
Path = List ℕ

-- a path that is applied: in criteria and data, the source of a pair, a lookup's q and r. The two are the same for now
abbrev pub Route : Type 0
Route = Path

-- 0 to 8 labels
unfoldable pub is_path : List ℕ → Bool
is_path p = leb (length p) path_max && all is_label p

-- 1 to 10,000
unfoldable pub is_divisor : ℕ → Bool
is_divisor n = leb 1 n && leb n divisor_max

pub data Criterion : Type 0 where
  -- document 01 calls it true
  always : Criterion
  exists : Route → Criterion
  equal : Route → List Tree → Criterion
  same : Route → Route → Criterion
  -- not, and, or
  negated : Criterion → Criterion
  both : Criterion → Criterion → Criterion
  either : Criterion → Criterion → Criterion

mutual
  pub data Data : Type 0 where
    literal : List Tree → Data
    path : Route → Data
    listed : Datas → Data
    test : Criterion → Data
    choice : Criterion → Data → Data → Data
    -- a path and a divisor
    reduced : Route → ℕ → Data

  -- the members of a list
  pub data Datas : Type 0 where
    ended : Datas
    more : Data → Datas → Datas

abbrev pub data_list : Datas → List Data
data_list ended = []
data_list (more d ds) = d ∷ data_list ds

abbrev pub datas : List Data → Datas
datas [] = ended
datas (d ∷ ds) = more d (datas ds)

-- what a project merges
pub data Item : Type 0 where
  keep : Path → Item
  place : Data → Path → Item

-- a pair of a group: where its values come from, and where they are placed (document 01's destination path). What is
-- placed is the values; or, if the pair is a total, which only an aggregate may be, their sum
pub record Pair : Type 0 where
  pub source : Route
  pub target : Path
  pub is_total : Bool

abbrev pub pair_with : Bool → Route → Path → Pair
pair_with b p q = record { source = p; target = q; is_total = b }

-- of values, and of their sum
abbrev pub pair_of : Route → Path → Pair
pair_of p q = pair_with false p q

abbrev pub total_pair : Route → Path → Pair
total_pair p q = pair_with true p q

pub data Stage : Type 0 where
  match : Criterion → Stage
  unwind : Path → Stage
  project : List Item → Stage
  -- aggregates, grouping
  group : List Pair → List Pair → Stage
  -- q, r, p: where the joined trees whose r equals the tree's q are placed
  lookup : Route → Route → Path → Stage
