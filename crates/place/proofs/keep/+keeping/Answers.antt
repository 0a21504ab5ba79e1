-- The proof of the cycle of place::keep, by answers to its goals: a label takes one step of the path, and what is
-- right from `from` on is right for all.
use Rattle.std.proofs.Common.{arith, refl, ◌∙◌, ◌+◌}
use Rattle.format.specs.StandLaws.{heads_most, trees_places}
use Rattle.queries.specs.StepLaws.{steps_fewer}
use Rattle.place.specs.WriterLaws.{along_room, along_inside, along_small, step_before, ready_places, ready_labels, ready_array, ready_first}
use Rattle.place.specs.PlaceLaws.{behind_at_lem}
use Rattle.place.specs.KeptLaws.{keep_end, keep_missing, keep_no_room, keep_part, kept_behind, kept_rest, each_end, each_fail, each_next}
use Rattle.place.proofs.keep.+keeping.Goals as goal
use Rattle.areas.specs.AreaLaws.{handed_on}

pub keep-steps-requires : goal.keep-steps-requires
keep-steps-requires t c = along_room c.requires.along

pub keep-copy-requires : goal.keep-copy-requires
keep-copy-requires t c =
    omega (arith, c.requires.room, c.requires.below, c.requires.inside, c.requires.source.value_is.ends)

pub keep-returns-then-i-steps : goal.keep-returns-then-i-steps
keep-returns-then-i-steps t c = keep_end (c.if-i-steps.true ∙ c.steps.ensures) c.copy.ensures

pub keep-step_at-label-requires : goal.keep-step_at-label-requires
keep-step_at-label-requires t c =
    along_inside c.requires.along c.args.i (step_before c.requires.step c.steps.ensures c.if-i-steps.false)

pub keep-overflow_add-tree : goal.keep-overflow_add-tree
keep-overflow_add-tree t c = omega (arith, ready_places c.requires refl)

pub keep-field_end-requires : goal.keep-field_end-requires
keep-field_end-requires t c = omega (arith, ready_places c.requires refl)

pub keep-find-requires : goal.keep-find-requires
keep-find-requires t c = ready_labels c.requires c.field_end.ensures

pub keep-put_void-requires : goal.keep-put_void-requires
keep-put_void-requires t c = (c.requires.room, c.requires.inside)

pub keep-returns-in_default : goal.keep-returns-in_default
keep-returns-in_default t c =
    keep_missing c.args.query.now c.args.path c.args.i (step_before c.requires.step c.steps.ensures c.if-i-steps.false)
    c.step_at-label.ensures c.field_end.ensures c.find.ensures c.in_default.is c.put_void.ensures

pub keep-overflow_add-n : goal.keep-overflow_add-n
keep-overflow_add-n t c = omega (arith, c.heads-n.ensures, heads_most c.step_at-label.result)

pub keep-overflow_sub-room : goal.keep-overflow_sub-room
keep-overflow_sub-room t c = omega (arith, c.requires.room)

pub keep-returns-then-room-n : goal.keep-returns-then-room-n
keep-returns-then-room-n t c =
    keep_no_room c.args.query.now c.args.path c.args.i (step_before c.requires.step c.steps.ensures c.if-i-steps.false)
    c.step_at-label.ensures c.field_end.ensures c.find.ensures c.in-Some.is c.args.room.from c.args.room.to (omega
    (arith, c.requires.room, c.if-room-n.true, c.heads-n.ensures))

pub keep-overflow_add-i : goal.keep-overflow_add-i
keep-overflow_add-i t c =
    omega (
      arith,
      (step_before c.requires.step c.steps.ensures c.if-i-steps.false),
      (steps_fewer c.args.query.now
          c.args.path),
    )

pub keep-keep_each-inner-requires : goal.keep-keep_each-inner-requires
keep-keep_each-inner-requires t c = (
  omega (
    arith,
    c.decreases,
    (step_before c.requires.step c.steps.ensures c.if-i-steps.false),
    (steps_fewer
        c.args.query.now c.args.path),
  ),
  (ready_array c.requires c.step_at-label.result (6 + c.heads-n.result) (step_before
      c.requires.step c.steps.ensures c.if-i-steps.false) c.field_end.ensures c.find.ensures c.in-Some.is (omega
      (arith, c.requires.room, c.if-room-n.false))),
)

pub keep-wrap-requires : goal.keep-wrap-requires
keep-wrap-requires t c = (
  behind_at_lem c.keep_each-inner.new.work (omega (arith, c.heads-n.ensures)) (kept_behind (ready_array c.requires
      c.step_at-label.result (6 + c.heads-n.result) (step_before c.requires.step c.steps.ensures c.if-i-steps.false)
      c.field_end.ensures c.find.ensures c.in-Some.is (omega (arith, c.requires.room, c.if-room-n.false)))
      c.keep_each-inner.ensures c.keep_each-inner.auto.work),
  omega (
    arith,
    c.step_at-label.ensures,
    along_small
        c.requires.along c.args.i (step_before c.requires.step c.steps.ensures c.if-i-steps.false),
  ),
  omega (
    arith,
    c.requires.room,
    c.if-room-n.false,
    c.requires.inside,
    c.keep_each-inner.auto.work,
    c.heads-n.ensures,
  ),
  omega
      (arith, c.requires.small, c.keep_each-inner.auto.work),
)

pub keep-returns : goal.keep-returns
keep-returns t c =
    keep_part c.args.query.now c.args.path c.args.i (step_before c.requires.step c.steps.ensures c.if-i-steps.false)
    c.step_at-label.ensures c.field_end.ensures c.find.ensures c.in-Some.is c.args.room.to (omega (
      arith,
      c.heads-n.ensures,
    )) (omega (arith, c.requires.room, c.if-room-n.false, c.requires.inside)) c.keep_each-inner.ensures
    c.wrap.ensures

pub keep_each-loop-from-init : goal.keep_each-loop-from-init
keep_each-loop-from-init t c = (c.requires, refl, λ v r h. h)

pub keep_each-field_end-m-requires : goal.keep_each-field_end-m-requires
keep_each-field_end-m-requires t c =
    omega (arith, trees_places c.loop-from.invariant.0.source c.loop-from-test.true refl)

pub keep_each-keep-requires : goal.keep_each-keep-requires
keep_each-keep-requires t c =
    (omega (arith, c.decreases), ready_first c.loop-from.invariant.0 c.loop-from-test.true c.field_end-m.ensures)

pub keep_each-returns-in_err-e : goal.keep_each-returns-in_err-e
keep_each-returns-in_err-e t c =
    rw (handed_on _ c.from_residual.result c.from_residual.ensures.1) (c.loop-from.invariant.2 _ _ (each_fail c.args.i c.loop-from-test.true c.field_end-m.ensures c.keep.ensures
    c.in_err-e.was))

pub keep_each-loop-from-smaller : goal.keep_each-loop-from-smaller
keep_each-loop-from-smaller t c =
    omega (arith, trees_places c.loop-from.invariant.0.source c.loop-from-test.true c.field_end-m.ensures)

pub keep_each-loop-from-preserved : goal.keep_each-loop-from-preserved
keep_each-loop-from-preserved t c = (
  kept_rest c.loop-from.invariant.0 c.loop-from-test.true c.field_end-m.ensures c.keep.ensures
      c.keep.auto.work c.in_ok-e.was,
  c.keep.auto.work ∙ c.loop-from.invariant.1,
  λ v r h. c.loop-from.invariant.2 v
      r (each_next c.args.i c.loop-from-test.true c.field_end-m.ensures c.keep.ensures c.loop-from.invariant.0.below
      (omega (arith, c.loop-from.invariant.0.room, c.loop-from.invariant.0.inside)) c.in_ok-e.was h),
)

pub keep_each-returns : goal.keep_each-returns
keep_each-returns t c =
    c.loop-from.invariant.2 _ _ (each_end c.args.i c.loop-from-test.false c.loop-from.invariant.0.room)
