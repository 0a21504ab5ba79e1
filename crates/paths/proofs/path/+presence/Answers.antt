-- The proof of the cycle of stages::path that says whether a path is present, by answers to its goals: each step
-- takes one from the steps that are left, and what is right for the trees from `at` on is right for all.
use Rattle.std.proofs.Common.{arith, ◌≡◌, refl, ◌∙◌, true, false}
use Rattle.spec_stages.specs.Paths as paths
use Rattle.queries.specs.StepLaws.{steps_fewer}
use Rattle.paths.specs.WalkLaws.{tells_end, tells_missing, tells_part, over_none, over_some, joined_end, walk_inside, walk_room, walk_part, walk_first, walk_rest, walk_places, step_left, present_some, present_none, present_here, present_next}
use Rattle.paths.proofs.path.+presence.Goals as goal

pub present-steps-requires : goal.present-steps-requires
present-steps-requires t c = walk_room c.requires

pub present-returns-then-i-steps : goal.present-returns-then-i-steps
present-returns-then-i-steps t c =
    tells_end c.args.query.now c.args.path c.args.i c.args.area.now c.args.tree.from c.args.tree.to (λ x. true ≡
    paths.present x) (c.if-i-steps.true ∙ c.steps.ensures) (λ t h. present_some _)

pub present-under-requires : goal.present-under-requires
present-under-requires t c =
    (walk_inside c.requires (step_left c.requires c.steps.ensures c.if-i-steps.false), c.requires.stands)

pub present-returns-in_default : goal.present-returns-in_default
present-returns-in_default t c =
    tells_missing c.args.query.now c.args.path c.args.i c.args.area.now c.args.tree.from c.args.tree.to (λ x. false ≡
    paths.present x) (step_left c.requires c.steps.ensures c.if-i-steps.false) c.under.ensures c.in_default.is
    present_none

pub present-overflow_add-i : goal.present-overflow_add-i
present-overflow_add-i t c =
    omega (arith, (step_left c.requires c.steps.ensures c.if-i-steps.false), (steps_fewer c.args.query.now c.args.path))

pub present-present_over-requires : goal.present-present_over-requires
present-present_over-requires t c = (
  omega (
    arith,
    c.decreases,
    (step_left c.requires c.steps.ensures c.if-i-steps.false),
    (steps_fewer c.args.query.now
        c.args.path),
  ),
  walk_part c.requires (step_left c.requires c.steps.ensures c.if-i-steps.false) c.under.ensures
      c.in-Some.is,
)

pub present-returns : goal.present-returns
present-returns t c =
    tells_part c.args.query.now c.args.path c.args.i c.args.area.now c.args.tree.from c.args.tree.to (λ x.
    c.present_over.result ≡ paths.present x) (step_left c.requires c.steps.ensures c.if-i-steps.false)
    c.under.ensures c.in-Some.is c.present_over.ensures

pub present_over-returns-then-at-end : goal.present_over-returns-then-at-end
present_over-returns-then-at-end t c =
    over_none c.args.query.now c.args.path c.args.i c.args.area.now c.args.trees.from c.args.trees.to (λ x. true ≡
    paths.present x) c.if-at-end.true (present_some _)

pub present_over-loop-at-init : goal.present_over-loop-at-init
present_over-loop-at-init t c = (c.requires, λ r h. h)

pub present_over-field_end-m-requires : goal.present_over-field_end-m-requires
present_over-field_end-m-requires t c = omega (arith, walk_places c.loop-at.invariant.0 c.loop-at-test.true refl)

pub present_over-present-requires : goal.present_over-present-requires
present_over-present-requires t c =
    (omega (arith, c.decreases), walk_first c.loop-at.invariant.0 c.loop-at-test.true c.field_end-m.ensures)

pub present_over-returns-then-present : goal.present_over-returns-then-present
present_over-returns-then-present t c =
    over_some c.args.query.now c.args.path c.args.i c.args.area.now c.args.trees.from c.args.trees.to (λ x. true ≡
    paths.present x) c.if-at-end.false (c.loop-at.invariant.1 true (present_here c.args.query.now c.args.path c.args.i
    c.args.area.now c.loop-at.at c.args.trees.to c.loop-at-test.true c.field_end-m.ensures c.present.ensures
    c.if-present.true))

pub present_over-loop-at-smaller : goal.present_over-loop-at-smaller
present_over-loop-at-smaller t c =
    omega (arith, walk_places c.loop-at.invariant.0 c.loop-at-test.true c.field_end-m.ensures)

pub present_over-loop-at-preserved : goal.present_over-loop-at-preserved
present_over-loop-at-preserved t c = (
  walk_rest c.loop-at.invariant.0 c.loop-at-test.true c.field_end-m.ensures,
  λ r h. c.loop-at.invariant.1 r
      (present_next c.args.query.now c.args.path c.args.i c.args.area.now c.loop-at.at c.args.trees.to c.loop-at-test.true
      c.field_end-m.ensures c.present.ensures c.if-present.false r h),
)

pub present_over-returns : goal.present_over-returns
present_over-returns t c =
    over_some c.args.query.now c.args.path c.args.i c.args.area.now c.args.trees.from c.args.trees.to (λ x. false ≡
    paths.present x) c.if-at-end.false (c.loop-at.invariant.1 false (joined_end c.args.query.now c.args.path c.args.i
    c.args.area.now c.loop-at.at c.args.trees.to (λ x. false ≡ paths.present x) c.loop-at-test.false present_none))
