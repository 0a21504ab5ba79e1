-- The proof of the cycle of totals::sum that adds the roots that a path gives, by answers to its goals: what is right for
-- the trees from `at` on, with the total so far, is right for all.
use Rattle.std.proofs.Common.{arith, refl, ◌∙◌}
use Rattle.queries.specs.StepLaws.{steps_fewer}
use Rattle.paths.specs.Walk.{given}
use Rattle.paths.specs.WalkLaws.{tells_end, tells_missing, tells_part, over_given, walk_inside, walk_room, walk_part, part_places, walk_first, walk_rest, walk_places, step_left}
use Rattle.totals.specs.Sum.{AddsTrees}
use Rattle.totals.specs.SumLaws.{summed_same, summed_within, summed_seq, summed_end, ready_within, ready_next, ready_first}
use Rattle.totals.specs.SumPathLaws.{given_none, given_one, sum_end, sum_next}
use Rattle.totals.proofs.sum.+summing.Goals as goal

pub sum_over-loop-at-init : goal.sum_over-loop-at-init
sum_over-loop-at-init t c =
    (c.requires.0, summed_same c.args.trees.from c.args.trees.from c.requires.1.sound (omega arith), λ k f. f)

pub sum_over-field_end-m-requires : goal.sum_over-field_end-m-requires
sum_over-field_end-m-requires t c = omega (arith, walk_places c.loop-at.invariant.0 c.loop-at-test.true refl)

pub sum_over-sum_walk-sum-requires : goal.sum_over-sum_walk-sum-requires
sum_over-sum_walk-sum-requires t c = (
  omega (arith, c.decreases),
  (
    walk_first c.loop-at.invariant.0 c.loop-at-test.true c.field_end-m.ensures,
    ready_first (walk_places c.loop-at.invariant.0 c.loop-at-test.true c.field_end-m.ensures).1 (ready_next c.requires.1
        c.loop-at.invariant.1),
  ),
)

pub sum_over-loop-at-smaller : goal.sum_over-loop-at-smaller
sum_over-loop-at-smaller t c =
    omega (arith, (walk_places c.loop-at.invariant.0 c.loop-at-test.true c.field_end-m.ensures))

pub sum_over-loop-at-preserved : goal.sum_over-loop-at-preserved
sum_over-loop-at-preserved t c = (
  walk_rest c.loop-at.invariant.0 c.loop-at-test.true c.field_end-m.ensures,
  summed_seq c.loop-at.invariant.1
      c.sum_walk-sum.ensures.0,
  λ k f. c.loop-at.invariant.2 k (sum_next c.args.query.now c.args.path c.args.i
      c.args.area.now c.loop-at.at c.args.trees.to c.loop-at.sum c.loop-at-test.true c.field_end-m.ensures
      c.sum_walk-sum.ensures.1 k f),
)

pub sum_over-returns : goal.sum_over-returns
sum_over-returns t c = (
  summed_end c.loop-at-test.false c.loop-at.invariant.1,
  over_given c.args.query.now c.args.path c.args.i
      c.args.area.now c.args.trees.from c.args.trees.to (AddsTrees c.args.total c.loop-at.sum) (c.loop-at.invariant.2
      c.loop-at.sum (sum_end c.args.query.now c.args.path c.args.i c.args.area.now c.loop-at.at c.args.trees.to
      c.loop-at.sum c.loop-at-test.false)),
)

pub sum_walk-steps-requires : goal.sum_walk-steps-requires
sum_walk-steps-requires t c = walk_room c.requires.0

pub sum_walk-sum_tree-requires : goal.sum_walk-sum_tree-requires
sum_walk-sum_tree-requires t c = (c.requires.0.stands, c.requires.1)

pub sum_walk-returns-then-i-steps : goal.sum_walk-returns-then-i-steps
sum_walk-returns-then-i-steps t c = (
  c.sum_tree.ensures.0,
  tells_end c.args.query.now c.args.path c.args.i c.args.area.now c.args.tree.from
      c.args.tree.to (λ x. AddsTrees c.args.total c.sum_tree.result (given x)) (c.if-i-steps.true ∙ c.steps.ensures)
      (given_one c.sum_tree.ensures.1),
)

pub sum_walk-under-requires : goal.sum_walk-under-requires
sum_walk-under-requires t c =
    (walk_inside c.requires.0 (step_left c.requires.0 c.steps.ensures c.if-i-steps.false), c.requires.0.stands)

pub sum_walk-returns-in_default : goal.sum_walk-returns-in_default
sum_walk-returns-in_default t c = (
  summed_same c.args.tree.from c.args.tree.to c.requires.1.sound (omega (arith, c.requires.0.stands.value_is.ends)),
  tells_missing c.args.query.now c.args.path c.args.i c.args.area.now c.args.tree.from c.args.tree.to (λ x. AddsTrees
      c.args.total c.args.total (given x)) (step_left c.requires.0 c.steps.ensures c.if-i-steps.false)
      c.under.ensures c.in_default.is (given_none c.args.total),
)

pub sum_walk-overflow_add-i : goal.sum_walk-overflow_add-i
sum_walk-overflow_add-i t c =
    omega (
      arith,
      (step_left c.requires.0 c.steps.ensures c.if-i-steps.false),
      (steps_fewer c.args.query.now
          c.args.path),
    )

pub sum_walk-sum_over-requires : goal.sum_walk-sum_over-requires
sum_walk-sum_over-requires t c = (
  omega (
    arith,
    c.decreases,
    (step_left c.requires.0 c.steps.ensures c.if-i-steps.false),
    (steps_fewer
        c.args.query.now c.args.path),
  ),
  (
    walk_part c.requires.0 (step_left c.requires.0 c.steps.ensures c.if-i-steps.false)
        c.under.ensures c.in-Some.is,
    ready_within (part_places c.requires.0 c.under.ensures c.in-Some.is)
        c.requires.1,
  ),
)

pub sum_walk-returns : goal.sum_walk-returns
sum_walk-returns t c = (
  summed_within (part_places c.requires.0 c.under.ensures c.in-Some.is) c.sum_over.ensures.0,
  tells_part
      c.args.query.now c.args.path c.args.i c.args.area.now c.args.tree.from c.args.tree.to (λ x. AddsTrees c.args.total
      c.sum_over.result (given x)) (step_left c.requires.0 c.steps.ensures c.if-i-steps.false) c.under.ensures
      c.in-Some.is c.sum_over.ensures.1,
)
