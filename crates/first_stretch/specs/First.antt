-- What the first stretch asks of the areas, and what it does: the trees of the input go through the stages up to the
-- first group.
use Rattle.std.specs.Prelude.{◌≡◌, List, [], ◌∷◌, Bool, true, false, ℕ, ◌+◌, ◌≤◌, length}
use Rattle.spec_trees.specs.Limits.{array_max, depth_max, work_min}
use Rattle.spec_trees.specs.Tree.{Tree}
use Rattle.spec_trees.specs.Bytes.{tree_bytes}
use Rattle.spec_trees.specs.Within.{Allowed, AllowedA}
use Rattle.areas.specs.Area.{Is}
use Rattle.areas.specs.declared.span.Span.{Span}
use Rattle.spec_queries.specs.Query.{Stage}
use Rattle.queries.specs.Places.{array_trees, HoldsOk}
use Rattle.queries.specs.declared.stage.StageAt.{StageAt}
use Rattle.spec_stages.specs.Stages.{is_group, going, stages}
use Rattle.spec_stages.specs.Positions.{numbered, carried}
use Rattle.stream.specs.declared.collector.Collector.{Collector}
use Rattle.spec_stages.specs.Stretch.{before}
use Rattle.map.specs.Map.{lent_part, rooms, tail_min}
use Rattle.stream.specs.Collector.{Open, Feeds}
use Rattle.stream.specs.Feed.{Planned}
use Rattle.stretch.specs.Carry.{Shows}

-- whether a stage is a group, and whether none stands before the first group
abbrev pub is_group_at : StageAt → Bool
is_group_at (StageAt.Match f) = false
is_group_at (StageAt.Unwind f) = false
is_group_at (StageAt.Project f) = false
is_group_at (StageAt.Group f) = true
is_group_at (StageAt.Lookup f) = false

abbrev pub none_before : List Stage → Bool
none_before [] = true
none_before (s ∷ ss) = is_group s

-- the trees of the input, an array within its limit, stand in i behind its head, stages in q, the joined trees in j
pub record FirstReady (i w q : List ℕ) (stages_at : Span) (j : List ℕ) : Type 0 where
  pub input : HoldsOk AllowedA array_trees i 3 (length i)
  pub short : length i ≤ array_max
  pub list : List Stage
  pub joined : List Tree
  pub planned : Planned q stages_at j list joined
  pub room : rooms (length (before list)) + tail_min ≤ lent_part
  pub size : length w ≡ work_min

-- one of these trees, whose bytes are b, goes through the stages in the area t that is lent to them
pub record TreeReady (t b q : List ℕ) (stages_at : Span) (j : List ℕ) (s : Collector) : Type 0 where
  pub list : List Stage
  pub joined : List Tree
  pub planned : Planned q stages_at j list joined
  pub tree : Tree
  pub allowed : Allowed depth_max tree
  pub tree_is : b ≡ tree_bytes tree
  pub room : rooms (length (before list)) + tail_min ≤ length t
  pub small : length t ≤ work_min
  pub goes : Open s

abbrev pub TreeFed : (t v b q : List ℕ) (stages_at : Span) (j : List ℕ) → Collector → Collector → Type 0
TreeFed t v b q stages_at j s r = (x : Tree) (ss : List Stage) (us : List Tree)
    → Allowed depth_max x → b ≡ tree_bytes x → Planned q stages_at j ss us → Feeds t s v r (stages us (before ss) (going (x ∷ [])))

-- whatever trees and stages stand there, what leaves the stretch was collected, and bears the positions of the trees
abbrev pub FirstPost : (i v q : List ℕ) (stages_at : Span) (j : List ℕ) → Collector → Type 0
FirstPost i v q stages_at j r = (ts : List Tree) (ss : List Stage) (us : List Tree)
    → AllowedA ts → Is i 3 (length i) (array_trees ts) → Planned q stages_at j ss us
    → Shows v r (stages us (before ss) (going ts)) (carried us (before ss) (numbered 1 ts))
