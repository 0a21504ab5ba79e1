-- What a writer along a path needs: the path stands in the query's bytes, and what it reads stands in the work area
-- below the room that it writes in.
use Rattle.std.specs.Prelude.{List, ℕ, ◌≤◌, length}
use Rattle.spec_trees.specs.Limits.{work_min}
use Rattle.areas.specs.Area.{IsAt}
use Rattle.areas.specs.declared.span.Span.{Span}
use Rattle.spec_queries.specs.Query.{Path}
use Rattle.spec_queries.specs.Rules.{OkP}
use Rattle.queries.specs.Places.{path_bytes, HoldsAt}
use Rattle.queries.specs.Steps.{step_count}

-- an allowed path stands in q there
pub record Along (q : List ℕ) (path_at : Span) : Type 0 where
  pub path : Path
  pub path_is : IsAt q path_at (path_bytes path)
  pub allowed : OkP path

-- some value, of which f gives the bytes, stands in w below the room, and is to be written from by the path from step i
-- on
pub record WriterReady {A : Type 0} (f : A → List ℕ) (w q : List ℕ) (path_at : Span) (i : ℕ) (at into : Span) : Type 0 where
  pub along : Along q path_at
  pub step : i ≤ step_count q path_at
  pub source : HoldsAt f w at
  pub below : at.to ≤ into.from
  pub room : into.from ≤ into.to
  pub inside : into.to ≤ length w
  pub small : length w ≤ work_min
