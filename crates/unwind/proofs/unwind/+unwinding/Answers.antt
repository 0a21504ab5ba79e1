-- The proof of the cycle that counts outcomes, by answers to its goals: a label takes one step of the path, and what is
-- right from `at` on is right for all. There are no more outcomes than bytes, so the sum fits.
use Rattle.std.proofs.Common.{arith, refl, sym, ◌∙◌, add_assoc, add-zero, zero-add}
use Rattle.format.specs.StandLaws.{tree_places, trees_places, holds_labels, holds_first, holds_rest}
use Rattle.format.specs.LabelLaws.{holds_found}
use Rattle.queries.specs.StepLaws.{steps_fewer}
use Rattle.place.specs.WriterLaws.{along_room, along_inside, step_before}
use Rattle.unwind.specs.OutcomeLaws.{count_end, count_missing, count_part, count_none, count_next, count_bound, count_sum}
use Rattle.unwind.proofs.unwind.+unwinding.Goals as goal

pub outcomes-steps-requires : goal.outcomes-steps-requires
outcomes-steps-requires t c = along_room c.requires.0

pub outcomes-returns-then-i-steps : goal.outcomes-returns-then-i-steps
outcomes-returns-then-i-steps t c = count_end c.args.i (c.if-i-steps.true ∙ c.steps.ensures)

pub outcomes-overflow_add-tree : goal.outcomes-overflow_add-tree
outcomes-overflow_add-tree t c = omega (arith, tree_places c.requires.2 refl)

pub outcomes-field_end-requires : goal.outcomes-field_end-requires
outcomes-field_end-requires t c = omega (arith, tree_places c.requires.2 refl)

pub outcomes-step_at-requires : goal.outcomes-step_at-requires
outcomes-step_at-requires t c =
    along_inside c.requires.0 c.args.i (step_before c.requires.1 c.steps.ensures c.if-i-steps.false)

pub outcomes-find-requires : goal.outcomes-find-requires
outcomes-find-requires t c = holds_labels c.requires.2 c.field_end.ensures

pub outcomes-returns-in_default : goal.outcomes-returns-in_default
outcomes-returns-in_default t c =
    count_missing c.args.i (step_before c.requires.1 c.steps.ensures c.if-i-steps.false) c.step_at.ensures
    c.field_end.ensures c.find.ensures c.in_default.is

pub outcomes-overflow_add-i : goal.outcomes-overflow_add-i
outcomes-overflow_add-i t c =
    omega (
      arith,
      (step_before c.requires.1 c.steps.ensures c.if-i-steps.false),
      (steps_fewer c.args.query.now
          c.args.path),
    )

pub outcomes-outcomes_each-requires : goal.outcomes-outcomes_each-requires
outcomes-outcomes_each-requires t c = (
  omega (
    arith,
    c.decreases,
    (step_before c.requires.1 c.steps.ensures c.if-i-steps.false),
    (steps_fewer
        c.args.query.now c.args.path),
  ),
  (
    c.requires.0,
    omega (
      arith,
      (step_before c.requires.1 c.steps.ensures
          c.if-i-steps.false),
    ),
    holds_found c.step_at.result (holds_labels c.requires.2 c.field_end.ensures)
        c.find.ensures c.in-Some.is,
  ),
)

pub outcomes-returns : goal.outcomes-returns
outcomes-returns t c =
    count_part c.args.i (step_before c.requires.1 c.steps.ensures c.if-i-steps.false) c.step_at.ensures
    c.field_end.ensures c.find.ensures c.in-Some.is c.outcomes_each.ensures

pub outcomes_each-loop-at-init : goal.outcomes_each-loop-at-init
outcomes_each-loop-at-init t c = (omega arith, c.requires.2, λ r h. count_sum c.args.i (sym (zero-add r)) h)

pub outcomes_each-field_end-m-requires : goal.outcomes_each-field_end-m-requires
outcomes_each-field_end-m-requires t c = omega (arith, trees_places c.loop-at.invariant.1 c.loop-at-test.true refl)

pub outcomes_each-outcomes-n-requires : goal.outcomes_each-outcomes-n-requires
outcomes_each-outcomes-n-requires t c = (
  omega (arith, c.decreases),
  (
    c.requires.0,
    c.requires.1,
    (holds_first c.loop-at.invariant.1 c.loop-at-test.true
        c.field_end-m.ensures),
  ),
)

pub outcomes_each-overflow_add-n : goal.outcomes_each-overflow_add-n
outcomes_each-overflow_add-n t c =
    omega (
      arith,
      (count_bound c.args.i c.requires.0 (holds_first c.loop-at.invariant.1 c.loop-at-test.true
          c.field_end-m.ensures) c.outcomes-n.ensures),
      c.loop-at.invariant.0,
      trees_places c.loop-at.invariant.1
          c.loop-at-test.true c.field_end-m.ensures,
    )

pub outcomes_each-loop-at-smaller : goal.outcomes_each-loop-at-smaller
outcomes_each-loop-at-smaller t c =
    omega (arith, trees_places c.loop-at.invariant.1 c.loop-at-test.true c.field_end-m.ensures)

pub outcomes_each-loop-at-preserved : goal.outcomes_each-loop-at-preserved
outcomes_each-loop-at-preserved t c = (
  omega (
    arith,
    (count_bound c.args.i c.requires.0 (holds_first c.loop-at.invariant.1 c.loop-at-test.true
        c.field_end-m.ensures) c.outcomes-n.ensures),
    c.loop-at.invariant.0,
  ),
  holds_rest c.loop-at.invariant.1
      c.loop-at-test.true c.field_end-m.ensures,
  λ r h. count_sum c.args.i (sym (add_assoc c.loop-at.n c.outcomes-n.result
      r)) (c.loop-at.invariant.2 _ (count_next c.args.i c.loop-at-test.true c.field_end-m.ensures c.outcomes-n.ensures
      h)),
)

pub outcomes_each-returns : goal.outcomes_each-returns
outcomes_each-returns t c =
    count_sum c.args.i (add-zero c.loop-at.n) (c.loop-at.invariant.2 0 (count_none c.args.i c.loop-at-test.false))
