-- The collector at the end of every tail of the work area: what it holds, and what feeding it means.
use Rattle.std.specs.Prelude.{◌≡◌, List, ◌++◌, Bool, true, false, ℕ, ◌≤◌, ◌<◌, length, take, drop}
use Rattle.spec_trees.specs.Limits.{tree_max, work_min}
use Rattle.areas.specs.Area.{Is}
use Rattle.queries.specs.Places.{array_trees}
use Rattle.spec_stages.specs.Stages.{State, going, large, halted}
use Rattle.stream.specs.declared.collector.Collector.{Collector}
use Rattle.stream.specs.declared.collector.Collector.TheVariants.{Len, Over, Large}
use Rattle.map.specs.Map.{trees_max, collector_at, tail_min}

unfoldable pub is_large : Collector → Bool
is_large (Len n) = false
is_large Over = false
is_large Large = true

-- the end part of every tail
abbrev pub ends : List ℕ → List ℕ
ends w = drop (collector_at (length w)) w

-- the collector at the end of w, which holds what s says, has taken xs
unfoldable pub Collects : List ℕ → Collector → List ℕ → Type 0
Collects w (Len n) xs = (n ≡ length xs) × (n ≤ trees_max) × (take n (ends w) ≡ xs)
Collects w Over xs = trees_max < length xs
Collects w Large xs = ⊥

-- the run goes on
unfoldable pub Open : Collector → Type 0
Open (Len n) = n ≤ trees_max
Open Over = Unit {0}
Open Large = ⊥

-- after xs the collector was given what the state says: all its trees; or a tree was too large, and nothing else is
-- said
unfoldable pub Fed : List ℕ → Collector → List ℕ → State → Type 0
Fed v r xs large = r ≡ Large
Fed v r xs (halted h) = ⊥
Fed v r xs (going ys) = Collects v r (xs ++ array_trees ys)

-- from the area t with the collector s to the area v with the collector r
pub record Feeds (t : List ℕ) (s : Collector) (v : List ℕ) (r : Collector) (st : State) : Type 0 where
  pub fed : (xs : List ℕ) → Collects t s xs → Fed v r xs st

-- ---- one tree for the collector: it stands at the front of t up to te
pub record CollectReady (t : List ℕ) (te : ℕ) (s : Collector) : Type 0 where
  pub fits : te ≤ tree_max
  pub wide : tail_min ≤ length t
  pub small : length t ≤ work_min
  pub goes : Open s

-- whatever bytes stand there were put behind what the collector held
pub record Collected (t v : List ℕ) (te : ℕ) (s r : Collector) : Type 0 where
  pub taken : (b xs : List ℕ) → Is t 0 te b → Collects t s xs → Collects v r (xs ++ b)
