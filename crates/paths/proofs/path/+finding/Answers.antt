-- The proof of the cycle of stages::path that finds tree j of what a path gives, by answers to its goals: what is
-- right for the trees from `at` on and what is left of j is right for all and j.
use Rattle.std.proofs.Common.{arith, refl, ◌∙◌, ◌-◌}
use Rattle.queries.specs.StepLaws.{steps_fewer}
use Rattle.paths.specs.Walk.{given, ElementIs}
use Rattle.paths.specs.WalkLaws.{tells_end, tells_missing, tells_part, over_given, walk_inside, walk_room, walk_part, part_places, walk_first, walk_rest, walk_places, step_left}
use Rattle.paths.specs.ElementLaws.{element_one, element_past, element_none, element_within, element_end, element_here, element_next}
use Rattle.paths.proofs.path.+finding.Goals as goal
use Rattle.std.specs.Prelude.{Ok, Err}

pub nth-steps-requires : goal.nth-steps-requires
nth-steps-requires t c = walk_room c.requires

pub nth-returns-then-j-eq0 : goal.nth-returns-then-j-eq0
nth-returns-then-j-eq0 t c =
    tells_end c.args.query.now c.args.path c.args.i c.args.area.now c.args.tree.from c.args.tree.to (λ x. ElementIs
    c.args.area.now c.args.tree c.args.j (given x) (Ok c.args.tree)) (c.if-i-steps.true ∙ c.steps.ensures)
    (element_one c.args.area.now c.args.tree.from c.args.tree.to c.args.j c.if-j-eq0.true)

pub nth-returns-then-i-steps : goal.nth-returns-then-i-steps
nth-returns-then-i-steps t c =
    tells_end c.args.query.now c.args.path c.args.i c.args.area.now c.args.tree.from c.args.tree.to (λ x. ElementIs
    c.args.area.now c.args.tree c.args.j (given x) (Err (c.args.j - 1))) (c.if-i-steps.true ∙ c.steps.ensures) (λ t h.
    element_past c.args.area.now c.args.tree.from c.args.tree.to c.args.j c.if-j-eq0.false t)

pub nth-under-requires : goal.nth-under-requires
nth-under-requires t c =
    (walk_inside c.requires (step_left c.requires c.steps.ensures c.if-i-steps.false), c.requires.stands)

pub nth-returns-in_default : goal.nth-returns-in_default
nth-returns-in_default t c =
    tells_missing c.args.query.now c.args.path c.args.i c.args.area.now c.args.tree.from c.args.tree.to (λ x. ElementIs
    c.args.area.now c.args.tree c.args.j (given x) (Err c.args.j)) (step_left c.requires c.steps.ensures
    c.if-i-steps.false) c.under.ensures c.in_default.is (element_none c.args.area.now c.args.tree.from
    c.args.tree.to c.args.j)

pub nth-overflow_add-i : goal.nth-overflow_add-i
nth-overflow_add-i t c =
    omega (arith, (step_left c.requires c.steps.ensures c.if-i-steps.false), (steps_fewer c.args.query.now c.args.path))

pub nth-nth_over-requires : goal.nth-nth_over-requires
nth-nth_over-requires t c = (
  omega (
    arith,
    c.decreases,
    (step_left c.requires c.steps.ensures c.if-i-steps.false),
    (steps_fewer c.args.query.now
        c.args.path),
  ),
  walk_part c.requires (step_left c.requires c.steps.ensures c.if-i-steps.false) c.under.ensures
      c.in-Some.is,
)

pub nth-returns : goal.nth-returns
nth-returns t c =
    tells_part c.args.query.now c.args.path c.args.i c.args.area.now c.args.tree.from c.args.tree.to (λ x. ElementIs
    c.args.area.now c.args.tree c.args.j (given x) c.nth_over.result) (step_left c.requires c.steps.ensures
    c.if-i-steps.false) c.under.ensures c.in-Some.is (λ path ts g h. element_within (part_places c.requires
    c.under.ensures c.in-Some.is).0 (part_places c.requires c.under.ensures c.in-Some.is).2
    (c.nth_over.ensures path ts g h))

pub nth_over-loop-at-init : goal.nth_over-loop-at-init
nth_over-loop-at-init t c = (c.requires, λ r h. h)

pub nth_over-field_end-m-requires : goal.nth_over-field_end-m-requires
nth_over-field_end-m-requires t c = omega (arith, walk_places c.loop-at.invariant.0 c.loop-at-test.true refl)

pub nth_over-nth-r-requires : goal.nth_over-nth-r-requires
nth_over-nth-r-requires t c =
    (omega (arith, c.decreases), walk_first c.loop-at.invariant.0 c.loop-at-test.true c.field_end-m.ensures)

pub nth_over-returns-in_default : goal.nth_over-returns-in_default
nth_over-returns-in_default t c =
    over_given c.args.query.now c.args.path c.args.i c.args.area.now c.args.trees.from c.args.trees.to (λ l. ElementIs
    c.args.area.now c.args.trees c.args.j l c.nth-r.result) (c.loop-at.invariant.1 c.nth-r.result (element_here
    c.args.query.now c.args.path c.args.i c.args.area.now c.loop-at.at c.args.trees.to c.loop-at.left
    c.loop-at-test.true c.field_end-m.ensures (omega (
      arith,
      (walk_places c.loop-at.invariant.0 c.loop-at-test.true
          c.field_end-m.ensures),
    )) (walk_places c.loop-at.invariant.0 c.loop-at-test.true c.field_end-m.ensures).1
    c.nth-r.ensures c.nth-r.result refl c.in_default.is))

pub nth_over-loop-at-smaller : goal.nth_over-loop-at-smaller
nth_over-loop-at-smaller t c =
    omega (arith, (walk_places c.loop-at.invariant.0 c.loop-at-test.true c.field_end-m.ensures))

pub nth_over-loop-at-preserved : goal.nth_over-loop-at-preserved
nth_over-loop-at-preserved t c = (
  walk_rest c.loop-at.invariant.0 c.loop-at-test.true c.field_end-m.ensures,
  λ r h. c.loop-at.invariant.1 r
      (element_next c.args.query.now c.args.path c.args.i c.args.area.now c.loop-at.at c.args.trees.to c.loop-at.left
      c.loop-at-test.true c.field_end-m.ensures (omega (
        arith,
        (walk_places c.loop-at.invariant.0 c.loop-at-test.true
            c.field_end-m.ensures),
      )) (walk_places c.loop-at.invariant.0 c.loop-at-test.true c.field_end-m.ensures).1
      c.nth-r.ensures c.in-Err.is r h),
)

pub nth_over-returns : goal.nth_over-returns
nth_over-returns t c =
    over_given c.args.query.now c.args.path c.args.i c.args.area.now c.args.trees.from c.args.trees.to (λ l. ElementIs
    c.args.area.now c.args.trees c.args.j l (Err c.loop-at.left)) (c.loop-at.invariant.1 (Err c.loop-at.left)
    (element_end c.args.query.now c.args.path c.args.i c.args.area.now c.loop-at.at c.args.trees.to c.loop-at.left
    c.loop-at-test.false))
