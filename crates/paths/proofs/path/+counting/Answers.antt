-- The proof of the cycle of stages::path that counts what a path gives, by answers to its goals: n trees were passed
-- before `at`, no more than bytes.
use Rattle.std.proofs.Common.{arith, ◌≡◌, refl, ◌∙◌, length}
use Rattle.format.specs.StandLaws.{tree_places}
use Rattle.queries.specs.StepLaws.{steps_fewer}
use Rattle.paths.specs.Walk.{given}
use Rattle.paths.specs.WalkLaws.{tells_end, tells_missing, tells_part, over_given, walk_inside, walk_room, walk_part, part_places, walk_first, walk_rest, walk_places, step_left}
use Rattle.paths.specs.ElementLaws.{count_one, count_none, count_end, count_next}
use Rattle.paths.proofs.path.+counting.Goals as goal

pub count-steps-requires : goal.count-steps-requires
count-steps-requires t c = walk_room c.requires

pub count-returns-then-i-steps : goal.count-returns-then-i-steps
count-returns-then-i-steps t c = (
  omega (arith, tree_places c.requires.stands refl),
  tells_end c.args.query.now c.args.path c.args.i c.args.area.now
      c.args.tree.from c.args.tree.to (λ x. 1 ≡ length (given x)) (c.if-i-steps.true ∙ c.steps.ensures) (λ t h. count_one
      t),
)

pub count-under-requires : goal.count-under-requires
count-under-requires t c =
    (walk_inside c.requires (step_left c.requires c.steps.ensures c.if-i-steps.false), c.requires.stands)

pub count-returns-in_default : goal.count-returns-in_default
count-returns-in_default t c = (
  omega arith,
  tells_missing c.args.query.now c.args.path c.args.i c.args.area.now c.args.tree.from c.args.tree.to (λ
      x. 0 ≡ length (given x)) (step_left c.requires c.steps.ensures c.if-i-steps.false) c.under.ensures
      c.in_default.is count_none,
)

pub count-overflow_add-i : goal.count-overflow_add-i
count-overflow_add-i t c =
    omega (arith, (step_left c.requires c.steps.ensures c.if-i-steps.false), (steps_fewer c.args.query.now c.args.path))

pub count-count_over-requires : goal.count-count_over-requires
count-count_over-requires t c = (
  omega (
    arith,
    c.decreases,
    (step_left c.requires c.steps.ensures c.if-i-steps.false),
    (steps_fewer c.args.query.now
        c.args.path),
  ),
  walk_part c.requires (step_left c.requires c.steps.ensures c.if-i-steps.false) c.under.ensures
      c.in-Some.is,
)

pub count-returns : goal.count-returns
count-returns t c = (
  omega (arith, part_places c.requires c.under.ensures c.in-Some.is, c.count_over.ensures.0),
  tells_part
      c.args.query.now c.args.path c.args.i c.args.area.now c.args.tree.from c.args.tree.to (λ x. c.count_over.result ≡
      length (given x)) (step_left c.requires c.steps.ensures c.if-i-steps.false) c.under.ensures c.in-Some.is
      c.count_over.ensures.1,
)

pub count_over-loop-at-init : goal.count_over-loop-at-init
count_over-loop-at-init t c = (c.requires, omega arith, omega arith, λ k h path ts g w. omega (arith, h path ts g w))

pub count_over-field_end-m-requires : goal.count_over-field_end-m-requires
count_over-field_end-m-requires t c = omega (arith, walk_places c.loop-at.invariant.0 c.loop-at-test.true refl)

pub count_over-count-n-requires : goal.count_over-count-n-requires
count_over-count-n-requires t c =
    (omega (arith, c.decreases), walk_first c.loop-at.invariant.0 c.loop-at-test.true c.field_end-m.ensures)

pub count_over-overflow_add-n : goal.count_over-overflow_add-n
count_over-overflow_add-n t c =
    omega (arith, (walk_places c.loop-at.invariant.0 c.loop-at-test.true c.field_end-m.ensures), c.count-n.ensures.0)

pub count_over-loop-at-smaller : goal.count_over-loop-at-smaller
count_over-loop-at-smaller t c =
    omega (arith, (walk_places c.loop-at.invariant.0 c.loop-at-test.true c.field_end-m.ensures))

pub count_over-loop-at-preserved : goal.count_over-loop-at-preserved
count_over-loop-at-preserved t c = (
  walk_rest c.loop-at.invariant.0 c.loop-at-test.true c.field_end-m.ensures,
  omega (
    arith,
    (walk_places
        c.loop-at.invariant.0 c.loop-at-test.true c.field_end-m.ensures),
  ),
  omega (
    arith,
    (walk_places c.loop-at.invariant.0
        c.loop-at-test.true c.field_end-m.ensures),
    c.count-n.ensures.0,
  ),
  λ k h. c.loop-at.invariant.3 k (count_next
      c.args.query.now c.args.path c.args.i c.args.area.now c.loop-at.at c.args.trees.to c.loop-at.n c.loop-at-test.true
      c.field_end-m.ensures c.count-n.ensures.1 k h),
)

pub count_over-returns : goal.count_over-returns
count_over-returns t c = (
  omega arith,
  over_given c.args.query.now c.args.path c.args.i c.args.area.now c.args.trees.from c.args.trees.to (λ
      l. c.loop-at.n ≡ length l) (c.loop-at.invariant.3 c.loop-at.n (count_end c.args.query.now c.args.path c.args.i
      c.args.area.now c.loop-at.at c.args.trees.to c.loop-at.n c.loop-at-test.false)),
)
