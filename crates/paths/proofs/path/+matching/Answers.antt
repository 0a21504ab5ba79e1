-- The proof of the cycle of stages::path that looks for what a path gives in other bytes, by answers to its goals:
-- what is right for the trees from `from` on, looked for from n on, is right for all.
use Rattle.std.proofs.Common.{arith, refl, ◌∙◌}
use Rattle.format.specs.Stand.{trees_bytes}
use Rattle.spec_trees.specs.Tree.{trees}
use Rattle.queries.specs.StepLaws.{steps_fewer}
use Rattle.paths.specs.Walk.{given_bytes, ComparedIs}
use Rattle.paths.specs.WalkLaws.{tells_end, tells_missing, tells_part, over_given, walk_inside, walk_room, walk_part, walk_first, walk_rest, walk_places, step_left}
use Rattle.paths.specs.ComparedLaws.{compared_one, compared_none, compared_end, compared_here, compared_on, compared_room, holds_span}
use Rattle.paths.proofs.path.+matching.Goals as goal
use Rattle.std.specs.Prelude.{Some, None}

pub matches_at-steps-requires : goal.matches_at-steps-requires
matches_at-steps-requires t c = walk_room c.requires.0

pub matches_at-stands_at-requires : goal.matches_at-stands_at-requires
matches_at-stands_at-requires t c =
    ((holds_span c.requires.0.stands).0, (holds_span c.requires.0.stands).1, c.requires.1)

pub matches_at-returns-then-i-steps : goal.matches_at-returns-then-i-steps
matches_at-returns-then-i-steps t c =
    tells_end c.args.query.now c.args.path c.args.i c.args.area.now c.args.tree.from c.args.tree.to (λ x. ComparedIs
    c.args.other.now c.args.at (given_bytes x) c.stands_at.result) (c.if-i-steps.true ∙ c.steps.ensures) (compared_one
    c.stands_at.ensures)

pub matches_at-under-requires : goal.matches_at-under-requires
matches_at-under-requires t c =
    (walk_inside c.requires.0 (step_left c.requires.0 c.steps.ensures c.if-i-steps.false), c.requires.0.stands)

pub matches_at-returns-in_default : goal.matches_at-returns-in_default
matches_at-returns-in_default t c =
    tells_missing c.args.query.now c.args.path c.args.i c.args.area.now c.args.tree.from c.args.tree.to (λ x. ComparedIs
    c.args.other.now c.args.at (given_bytes x) (Some c.args.at)) (step_left c.requires.0 c.steps.ensures
    c.if-i-steps.false) c.under.ensures c.in_default.is (compared_none c.requires.1)

pub matches_at-overflow_add-i : goal.matches_at-overflow_add-i
matches_at-overflow_add-i t c =
    omega (
      arith,
      (step_left c.requires.0 c.steps.ensures c.if-i-steps.false),
      (steps_fewer c.args.query.now
          c.args.path),
    )

pub matches_at-matches_over-requires : goal.matches_at-matches_over-requires
matches_at-matches_over-requires t c = (
  omega (
    arith,
    c.decreases,
    (step_left c.requires.0 c.steps.ensures c.if-i-steps.false),
    (steps_fewer
        c.args.query.now c.args.path),
  ),
  (
    walk_part c.requires.0 (step_left c.requires.0 c.steps.ensures c.if-i-steps.false)
        c.under.ensures c.in-Some.is,
    c.requires.1,
  ),
)

pub matches_at-returns : goal.matches_at-returns
matches_at-returns t c =
    tells_part c.args.query.now c.args.path c.args.i c.args.area.now c.args.tree.from c.args.tree.to (λ x. ComparedIs
    c.args.other.now c.args.at (given_bytes x) c.matches_over.result) (step_left c.requires.0 c.steps.ensures
    c.if-i-steps.false) c.under.ensures c.in-Some.is c.matches_over.ensures

pub matches_over-loop-from-init : goal.matches_over-loop-from-init
matches_over-loop-from-init t c = (c.requires.0, c.requires.1, λ r h. h)

pub matches_over-field_end-m-requires : goal.matches_over-field_end-m-requires
matches_over-field_end-m-requires t c = omega (arith, walk_places c.loop-from.invariant.0 c.loop-from-test.true refl)

pub matches_over-matches_at-requires : goal.matches_over-matches_at-requires
matches_over-matches_at-requires t c = (
  omega (arith, c.decreases),
  (
    walk_first c.loop-from.invariant.0 c.loop-from-test.true c.field_end-m.ensures,
    c.loop-from.invariant.1,
  ),
)

pub matches_over-returns-in_err-k : goal.matches_over-returns-in_err-k
matches_over-returns-in_err-k t c =
    rw c.from_residual.ensures (over_given c.args.query.now c.args.path c.args.i c.args.area.now c.args.trees.from c.args.trees.to (λ l. ComparedIs
    c.args.other.now c.args.at (trees_bytes (trees l)) None) (c.loop-from.invariant.2 None (compared_here
    c.args.query.now c.args.path c.args.i c.args.area.now c.loop-from.from c.args.trees.to c.args.other.now
    c.loop-from.n c.loop-from-test.true c.field_end-m.ensures c.matches_at.ensures c.in_err-k.was)))

pub matches_over-loop-from-smaller : goal.matches_over-loop-from-smaller
matches_over-loop-from-smaller t c =
    omega (arith, (walk_places c.loop-from.invariant.0 c.loop-from-test.true c.field_end-m.ensures))

pub matches_over-loop-from-preserved : goal.matches_over-loop-from-preserved
matches_over-loop-from-preserved t c = (
  walk_rest c.loop-from.invariant.0 c.loop-from-test.true c.field_end-m.ensures,
  compared_room (walk_first
      c.loop-from.invariant.0 c.loop-from-test.true c.field_end-m.ensures) c.matches_at.ensures c.in_ok-k.was,
  λ r h.
      c.loop-from.invariant.2 r (compared_on c.args.query.now c.args.path c.args.i c.args.area.now c.loop-from.from
      c.args.trees.to c.args.other.now c.loop-from.n c.loop-from-test.true c.field_end-m.ensures c.matches_at.ensures
      c.in_ok-k.was r h),
)

pub matches_over-returns : goal.matches_over-returns
matches_over-returns t c =
    over_given c.args.query.now c.args.path c.args.i c.args.area.now c.args.trees.from c.args.trees.to (λ l. ComparedIs
    c.args.other.now c.args.at (trees_bytes (trees l)) (Some c.loop-from.n)) (c.loop-from.invariant.2 (Some c.loop-from.n)
    (compared_end c.args.query.now c.args.path c.args.i c.args.area.now c.loop-from.from c.args.trees.to
    c.args.other.now c.loop-from.n c.loop-from.invariant.1 c.loop-from-test.false))
