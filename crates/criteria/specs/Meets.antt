-- A criterion and a tree, read where they stand: what evaluators ask for, and what they say, in the terms of the
-- code. The criterion stands in q, and may nest `left` deep; the tree stands in s.
use Rattle.std.specs.Prelude.{◌≡◌, List, Bool, ℕ}
use Rattle.spec_trees.specs.Tree.{Tree}
use Rattle.spec_trees.specs.Bytes.{tree_bytes}
use Rattle.areas.specs.Area.{IsAt}
use Rattle.areas.specs.declared.span.Span.{Span}
use Rattle.spec_trees.specs.Limits.{depth_max}
use Rattle.spec_trees.specs.Within.{Allowed}
use Rattle.spec_queries.specs.Query.{Criterion}
use Rattle.spec_queries.specs.Rules.{NestedC}
use Rattle.queries.specs.Places.{criterion_bytes, OkAt}
use Rattle.spec_stages.specs.Criteria.{holds}

-- what an evaluator asks for: a criterion and a tree that the rules allow stand there
pub record Evaluable (q : List ℕ) (criterion_at : Span) (s : List ℕ) (tree_at : Span) (left : ℕ) : Type 0 where
  pub criterion : OkAt (NestedC left) criterion_bytes q criterion_at
  pub tree : OkAt (Allowed depth_max) tree_bytes s tree_at

-- r is whether the tree meets the criterion, of whatever allowed criterion and tree stand there
abbrev pub Meets : (q : List ℕ) (criterion_at : Span) (s : List ℕ) (tree_at : Span) (left : ℕ) → Bool → Type 0
Meets q criterion_at s tree_at left r =
    (x : Criterion) (t : Tree) → NestedC left x → IsAt q criterion_at (criterion_bytes x) → Allowed depth_max t
    → IsAt s tree_at (tree_bytes t) → r ≡ holds x t

-- ---- two criteria
pub record EvaluableTwo (q : List ℕ) (one two : Span) (s : List ℕ) (tree_at : Span) (left : ℕ) : Type 0 where
  pub first : Evaluable q one s tree_at left
  pub second : Evaluable q two s tree_at left

-- r is what op makes of whether the tree meets the one and whether it meets the other
abbrev pub MeetsTwo : (Bool → Bool → Bool) → (q : List ℕ) (one two : Span) (s : List ℕ) (tree_at : Span) (left : ℕ) → Bool → Type 0
MeetsTwo op q one two s tree_at left r =
    (x y : Criterion) (v : Tree) → NestedC left x → IsAt q one (criterion_bytes x) → NestedC left y → IsAt q two (criterion_bytes y)
    → Allowed depth_max v → IsAt s tree_at (tree_bytes v) → r ≡ op (holds x v) (holds y v)
