-- The next group of the stages that stand in a query's bytes.
use Rattle.std.specs.Prelude.{◌≡◌, List, [], ◌∷◌, ℕ, ◌+◌, ◌≤◌, Option as Maybe, Some, None}
use Rattle.areas.specs.Area.{IsAt}
use Rattle.areas.specs.declared.span.Span.{Span}
use Rattle.spec_queries.specs.Query.{Pair, Stage, group}
use Rattle.queries.specs.Places.{pairs_bytes, stages_bytes}
use Rattle.spec_stages.specs.Stretch.{behind}
use Rattle.stretch.specs.declared.next.StretchAt.{StretchAt}
use Rattle.queries.specs.declared.stage.GroupAt.{GroupAt}

abbrev pub stretch_at : GroupAt → Span → StretchAt
stretch_at g n = record { group = g; next = n }

-- of the stages ss, the next group has its pairs there, and the others stand behind it, up to the same end
pub record StretchIs (q : List ℕ) (stages_at : Span) (ss : List Stage) (at : StretchAt) : Type 0 where
  pub aggregates : List Pair
  pub grouping : List Pair
  pub others : List Stage
  pub same : behind ss ≡ group aggregates grouping ∷ others
  pub aggregates_is : IsAt q at.group.aggregates (pairs_bytes aggregates)
  pub grouping_is : IsAt q at.group.keys (pairs_bytes grouping)
  pub others_is : IsAt q at.next (stages_bytes others)
  pub after : stages_at.from + 3 ≤ at.next.from
  pub within : at.next.from ≤ at.next.to
  pub end : at.next.to ≡ stages_at.to

pub record NextIs (q : List ℕ) (stages_at : Span) (ss : List Stage) (r : Maybe StretchAt) : Type 0 where
  pub group_is : (at : StretchAt) → r ≡ Some at → StretchIs q stages_at ss at
  pub none : r ≡ None → behind ss ≡ []

-- r is right of whatever stages stand there
abbrev pub NextPost : (q : List ℕ) (stages_at : Span) → Maybe StretchAt → Type 0
NextPost q stages_at r = (ss : List Stage) → IsAt q stages_at (stages_bytes ss) → NextIs q stages_at ss r
