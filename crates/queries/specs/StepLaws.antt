-- The steps that are read are those of the path that stands there.
use Rattle.std.specs.Prelude.{◌≡◌, List, ℕ, ◌+◌, ◌≤◌, ◌<◌, length, get_or}
use Rattle.std.proofs.Common.{arith}
use Rattle.areas.specs.Area.{IsAt}
use Rattle.areas.specs.AreaLaws.{is_nth, is_content}
use Rattle.areas.specs.declared.span.Span.{Span}
use Rattle.spec_queries.specs.Query.{Path}
use Rattle.spec_queries.specs.Bytes.{path_f}
use Rattle.queries.specs.Places.{path_bytes}
use Rattle.queries.specs.Steps.{step_count, step_at, StepInside}

module _ {q : List ℕ} {at : Span} (path : Path) (h : IsAt q at (path_bytes path)) where
  pub steps_are : step_count q at ≡ length path
  unfolding step_count path_f
  steps_are = omega (arith, (is_content (path_f path) h).ends)

  pub step_is : (i : ℕ) → i < length path → step_at q at i ≡ get_or path i 0
  unfolding step_at path_f
  step_is i l = is_nth (is_content (path_f path) h) i l

  pub step_inside : (i : ℕ) → i < length path → StepInside q at i
  unfolding path_f
  step_inside i l = let c = is_content (path_f path) h in omega (arith, c.ends, c.inside)

  -- the path has its head
  pub path_room : (at.from + 3 ≤ at.to) × (at.to ≤ length q)
  unfolding path_f
  path_room = let c = is_content (path_f path) h in (omega (arith, c.ends), c.inside)

-- fewer than the bytes before the path's end: what falls in a walk along the path
pub steps_fewer : (q : List ℕ) (at : Span) → step_count q at ≤ at.to
unfolding step_count
steps_fewer q at = omega arith
