-- What the feeding of one class asks of the areas, and what it does: its tree goes through the stages behind the group.
use Rattle.std.specs.Prelude.{◌≡◌, List, [], ◌∷◌, ℕ, ◌≤◌, length, take}
use Rattle.spec_trees.specs.Tree.{Tree}
use Rattle.spec_trees.specs.Bytes.{tree_bytes}
use Rattle.spec_trees.specs.Within.{AllowedA}
use Rattle.areas.specs.Area.{Is, IsAt}
use Rattle.areas.specs.declared.span.Span.{Span}
use Rattle.spec_queries.specs.Query.{Pair, Stage}
use Rattle.queries.specs.Places.{array_trees, Pairs}
use Rattle.spec_stages.specs.Group.{Class}
use Rattle.spec_stages.specs.FitLaws.{ClassFits}
use Rattle.spec_stages.specs.Flat.{members}
use Rattle.stream.specs.declared.collector.Collector.{Collector}
use Rattle.map.specs.Map.{front_part}
use Rattle.stream.specs.Collector.{Open, Feeds}
use Rattle.stream.specs.Feed.{Planned}
use Rattle.stretch.specs.declared.next.StretchAt.{StretchAt}
use Rattle.group_stretch.specs.Group.{GroupPlan, through}

-- ---- one class: its first tree, and the others up to e
pub record ClassStands (w : List ℕ) (first_at : Span) (e : ℕ) (c : Class) : Type 0 where
  pub allowed : AllowedA (members c)
  pub first_is : IsAt w first_at (tree_bytes c.0)
  pub rest_is : Is w first_at.to e (array_trees c.1)

pub record ClassFrom (w : List ℕ) (first_at : Span) (e : ℕ) (q : List ℕ) (at : StretchAt) (j : List ℕ) (s : Collector) : Type 0 where
  pub plan : GroupPlan (length w) q at j
  pub one : Class
  pub stands : ClassStands w first_at e one
  pub fits : ClassFits plan.aggregates one
  pub below : e ≤ front_part
  pub goes : Open s

-- its tree went through the stages; the front stands as it stood
pub record ClassFed (w v : List ℕ) (first_at : Span) (e : ℕ) (q : List ℕ) (at : StretchAt) (j : List ℕ) (s r : Collector) : Type 0 where
  pub kept : take front_part v ≡ take front_part w
  pub feeds : (ags gs : List Pair) (c : Class) (ss : List Stage) (us : List Tree) → Pairs q at.group ags gs → ClassStands w first_at e c → ClassFits ags c
      → Planned q at.next j ss us → Feeds w s v r (through us ss ags gs (c ∷ []))
