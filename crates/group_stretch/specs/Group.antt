-- What a group and the stages behind it ask of the areas, and what they do: the classes of an array become trees, which
-- go through the stages up to the next group.
use Rattle.std.specs.Prelude.{◌≡◌, List, ℕ, ◌+◌, ◌≤◌, length}
use Rattle.spec_trees.specs.Limits.{work_min}
use Rattle.spec_trees.specs.Lists.{All, gather, each}
use Rattle.spec_trees.specs.Tree.{Tree}
use Rattle.spec_trees.specs.Within.{AllowedA}
use Rattle.spec_queries.specs.Query.{Pair, Stage}
use Rattle.queries.specs.Places.{Pairs}
use Rattle.spec_stages.specs.Group.{Class, class_tree}
use Rattle.spec_stages.specs.FitLaws.{ClassFits}
use Rattle.spec_stages.specs.Flat.{flat}
use Rattle.spec_stages.specs.Stages.{State, after, stages}
use Rattle.spec_stages.specs.Positions.{Borne, marked, sole, carried}
use Rattle.stream.specs.declared.collector.Collector.{Collector}
use Rattle.stretch.specs.declared.next.StretchAt.{StretchAt}
use Rattle.spec_stages.specs.Stretch.{before}
use Rattle.map.specs.Map.{trees_max, lent_part, rooms, group_min}
use Rattle.stream.specs.Feed.{Planned}
use Rattle.arrange.specs.Arrange.{Arranged}
use Rattle.stretch.specs.Carry.{Shows}
use Rattle.classes.specs.Read.{Stems}

-- in q stand its pairs and the stages, in j the joined trees; in what is lent to the stages there is room for the front
-- part, for a tree at each of the stages, for building and for the collector
pub record GroupPlan (size : ℕ) (q : List ℕ) (at : StretchAt) (j : List ℕ) : Type 0 where
  pub aggregates : List Pair
  pub grouping : List Pair
  pub pairs : Pairs q at.group aggregates grouping
  pub list : List Stage
  pub joined : List Tree
  pub planned : Planned q at.next j list joined
  pub room : rooms (length (before list)) + group_min ≤ size
  pub small : size ≤ work_min

-- the classes stand at the front, up to n, and their totals fit
pub record GroupReady (w : List ℕ) (n : ℕ) (q : List ℕ) (at : StretchAt) (j : List ℕ) : Type 0 where
  pub plan : GroupPlan lent_part q at j
  pub size : length w ≡ work_min
  pub stem : Tree → ℕ
  pub classes : List Class
  pub stems : Stems stem classes
  pub allowed : AllowedA (flat classes)
  pub fits : (ags gs : List Pair) → Pairs q at.group ags gs → All (ClassFits ags) classes
  pub stands : Arranged w n stem classes
  pub short : n ≤ trees_max

-- what the trees of these classes become in the stages up to the next group
unfoldable pub through : List Tree → List Stage → List Pair → List Pair → List Class → State
through us ss ags gs cs = stages us (before ss) (after (each (class_tree ags gs) cs))

-- the tree of each class bears its position; so does what it becomes
unfoldable pub borne_through : List Tree → List Stage → List Pair → List Pair → (Tree → ℕ) → List Class → List Borne
borne_through us ss ags gs p cs = carried us (before ss) (gather (λ c. marked (p c.0) (sole (class_tree ags gs c))) cs)

-- whatever stands there, what leaves the stretch was collected
abbrev pub GroupPost : (w v : List ℕ) (n : ℕ) (q : List ℕ) (at : StretchAt) (j : List ℕ) → Collector → Type 0
GroupPost w v n q at j r = (ags gs : List Pair) (p : Tree → ℕ) (cs : List Class) (ss : List Stage) (us : List Tree)
    → Pairs q at.group ags gs → Stems p cs → AllowedA (flat cs) × All (ClassFits ags) cs → Arranged w n p cs → Planned q at.next j ss us
    → Shows v r (through us ss ags gs cs) (borne_through us ss ags gs p cs)
