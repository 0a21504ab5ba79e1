-- The proof of the cycle that writes the j-th outcome, by answers to its goals: a label takes one step of the path, and
-- what is right from `at` on, for the outcomes that are still asked, is right for all.
use Rattle.std.proofs.Common.{arith, refl, ◌∙◌}
use Rattle.queries.specs.StepLaws.{steps_fewer}
use Rattle.place.specs.WriterLaws.{along_room, along_inside, along_small, step_before, ready_places, ready_labels}
use Rattle.unwind.specs.OutcomeLaws.{sound_plain, sound_places, sound_array, sound_room, sound_around, nth_end, nth_missing, nth_inner_past, nth_inner_written, nth_none, nth_here, nth_next, sounds_first, sounds_rest, sounds_end}
use Rattle.unwind.proofs.unwind.+putting.Goals as goal

pub put_nth-steps-requires : goal.put_nth-steps-requires
put_nth-steps-requires t c = along_room c.requires.0.along

pub put_nth-put_whole-requires : goal.put_nth-put_whole-requires
put_nth-put_whole-requires t c =
    omega (arith, c.requires.0.room, c.requires.0.below, c.requires.0.inside, c.requires.0.source.value_is.ends)

pub put_nth-returns-then-i-steps : goal.put_nth-returns-then-i-steps
put_nth-returns-then-i-steps t c = nth_end c.args.i (c.if-i-steps.true ∙ c.steps.ensures) c.put_whole.ensures

pub put_nth-step_at-label-requires : goal.put_nth-step_at-label-requires
put_nth-step_at-label-requires t c =
    along_inside c.requires.0.along c.args.i (step_before c.requires.0.step c.steps.ensures c.if-i-steps.false)

pub put_nth-overflow_add-tree : goal.put_nth-overflow_add-tree
put_nth-overflow_add-tree t c = omega (arith, ready_places (sound_plain c.requires.0 c.requires.1) refl)

pub put_nth-field_end-requires : goal.put_nth-field_end-requires
put_nth-field_end-requires t c = omega (arith, ready_places (sound_plain c.requires.0 c.requires.1) refl)

pub put_nth-find-requires : goal.put_nth-find-requires
put_nth-find-requires t c = ready_labels (sound_plain c.requires.0 c.requires.1) c.field_end.ensures

pub put_nth-returns-in_default : goal.put_nth-returns-in_default
put_nth-returns-in_default t c =
    nth_missing c.args.query.now c.args.path c.args.i (step_before c.requires.0.step c.steps.ensures c.if-i-steps.false)
    c.step_at-label.ensures c.field_end.ensures c.find.ensures c.args.j c.args.room.from c.args.room.to
    c.in_default.is

pub put_nth-overflow_sub-at : goal.put_nth-overflow_sub-at
put_nth-overflow_sub-at t c =
    omega (arith, (sound_places c.requires.0 c.requires.1 c.field_end.ensures c.find.ensures c.in-Some.is))

pub put_nth-overflow_add-at : goal.put_nth-overflow_add-at
put_nth-overflow_add-at t c =
    omega (
      arith,
      (sound_places c.requires.0 c.requires.1 c.field_end.ensures c.find.ensures c.in-Some.is),
      c.requires.1,
      c.requires.0.inside,
    )

pub put_nth-overflow_add-i : goal.put_nth-overflow_add-i
put_nth-overflow_add-i t c =
    omega (
      arith,
      (step_before c.requires.0.step c.steps.ensures c.if-i-steps.false),
      (steps_fewer c.args.query.now
          c.args.path),
    )

pub put_nth-put_nth_each-inner-requires : goal.put_nth-put_nth_each-inner-requires
put_nth-put_nth_each-inner-requires t c = (
  omega (
    arith,
    c.decreases,
    (step_before c.requires.0.step c.steps.ensures c.if-i-steps.false),
    (steps_fewer
        c.args.query.now c.args.path),
  ),
  (
    sound_array c.requires.0 c.requires.1 c.field_end.ensures c.find.ensures
        c.in-Some.is (step_before c.requires.0.step c.steps.ensures c.if-i-steps.false),
    sound_room c.requires.0
        c.requires.1 c.field_end.ensures c.find.ensures c.in-Some.is,
  ),
)

pub put_nth-returns-in_default-inner : goal.put_nth-returns-in_default-inner
put_nth-returns-in_default-inner t c =
    nth_inner_past c.args.query.now c.args.path c.args.i (step_before c.requires.0.step c.steps.ensures
    c.if-i-steps.false) c.step_at-label.ensures c.field_end.ensures c.find.ensures c.args.room.from c.in-Some.is
    c.put_nth_each-inner.ensures c.in_default-inner.is

pub put_nth-surround-all-requires : goal.put_nth-surround-all-requires
put_nth-surround-all-requires t c =
    sound_around c.requires.0 c.requires.1 c.field_end.ensures c.find.ensures c.in-Some.is (step_before
    c.requires.0.step c.steps.ensures c.if-i-steps.false) (omega (
      arith,
      c.step_at-label.ensures,
      along_small
          c.requires.0.along c.args.i (step_before c.requires.0.step c.steps.ensures c.if-i-steps.false),
    ))
    c.put_nth_each-inner.auto.work c.put_nth_each-inner.ensures c.in-Written.is

pub put_nth-returns : goal.put_nth-returns
put_nth-returns t c =
    nth_inner_written c.args.query.now c.args.path c.args.i (step_before c.requires.0.step c.steps.ensures
    c.if-i-steps.false) c.step_at-label.ensures c.field_end.ensures c.find.ensures c.requires.0.inside
    c.in-Some.is c.put_nth_each-inner.ensures c.in-Written.is c.surround-all.ensures

pub put_nth_each-loop-at-init : goal.put_nth_each-loop-at-init
put_nth_each-loop-at-init t c = (c.requires, refl, λ v r h. h)

pub put_nth_each-field_end-m-requires : goal.put_nth_each-field_end-m-requires
put_nth_each-field_end-m-requires t c =
    omega (arith, sounds_end c.loop-at.invariant.0.0 c.loop-at.invariant.0.1 c.loop-at-test.true refl)

pub put_nth_each-put_nth-one-requires : goal.put_nth_each-put_nth-one-requires
put_nth_each-put_nth-one-requires t c = (
  omega (arith, c.decreases),
  sounds_first c.loop-at.invariant.0.0 c.loop-at.invariant.0.1 c.loop-at-test.true
      c.field_end-m.ensures,
)

pub put_nth_each-returns-in_default : goal.put_nth_each-returns-in_default
put_nth_each-returns-in_default t c =
    c.loop-at.invariant.2 _ _ (nth_here c.args.i c.loop-at-test.true c.field_end-m.ensures c.put_nth-one.ensures
    c.in_default.is)

pub put_nth_each-loop-at-smaller : goal.put_nth_each-loop-at-smaller
put_nth_each-loop-at-smaller t c =
    omega (arith, sounds_end c.loop-at.invariant.0.0 c.loop-at.invariant.0.1 c.loop-at-test.true c.field_end-m.ensures)

pub put_nth_each-loop-at-preserved : goal.put_nth_each-loop-at-preserved
put_nth_each-loop-at-preserved t c = (
  sounds_rest c.loop-at.invariant.0.0 c.loop-at.invariant.0.1 c.loop-at-test.true c.field_end-m.ensures
      c.put_nth-one.ensures c.in-Past.is,
  c.put_nth-one.auto.work ∙ c.loop-at.invariant.1,
  λ v r h. c.loop-at.invariant.2
      v r (nth_next c.args.i c.loop-at-test.true c.field_end-m.ensures c.put_nth-one.ensures c.in-Past.is h),
)

pub put_nth_each-returns : goal.put_nth_each-returns
put_nth_each-returns t c = c.loop-at.invariant.2 _ _ (nth_none c.args.i c.loop-at-test.false)
