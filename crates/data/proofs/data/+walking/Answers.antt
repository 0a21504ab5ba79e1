-- The proof of the cycle of data::data that writes what a path gives, by answers to its goals: each step takes one
-- from the steps that are left, and what is right for the trees from `from` on, behind what was written, is right for
-- all.
use Rattle.std.proofs.Common.{Ok, Err, rules, ap, arith, refl, ◌∙◌}
use Rattle.areas.specs.AreaLaws.{take_less}
use Rattle.queries.specs.StepLaws.{steps_fewer}
use Rattle.paths.specs.WalkLaws.{walk_inside, walk_room, walk_places, step_left}
use Rattle.data.specs.ValueLaws.{ok_small, err_large, ok_end, ok_found, large_on, value_ok, value_err}
use Rattle.data.specs.WritePathLaws.{kept_none, kept_here, kept_large, kept_answer, walked_leaf, walk_missing, walk_under, walked_piece, over_empty, over_walked, walk_done, walk_stop, walk_next, ready_leaf, ready_under, ready_first, ready_rest}
use Rattle.data.proofs.data.+walking.Goals as goal
use Rattle.std.specs.Prelude.{Err}
use Rattle.areas.specs.Area.{too_large}

pub write_over-steps-requires : goal.write_over-steps-requires
write_over-steps-requires t c = walk_room c.requires.walk

pub write_over-copy-requires : goal.write_over-copy-requires
write_over-copy-requires t c =
    (omega (arith, c.requires.walk.stands.value_is.ends), c.requires.below, c.requires.room, c.requires.area)

pub write_over-returns-then-in_piece : goal.write_over-returns-then-in_piece
write_over-returns-then-in_piece t c =
    walked_piece c.args.query.now c.args.path c.args.i c.args.work.now c.args.trees.from c.args.trees.to
    c.args.room.from c.args.room.to c.args.divisor (value_ok c.in_ok-end.was) (c.in_piece.ensures c.if-in_piece.true).0
    ((c.in_piece.ensures c.if-in_piece.true).1 ∙ c.steps.ensures) (omega (arith, c.requires.room, c.requires.area))
    c.requires.room c.copy.ensures

pub write_over-returns-in_err-end : goal.write_over-returns-in_err-end
write_over-returns-in_err-end t c =
    rw (large_on _ c.from_residual.result c.from_residual.ensures.1) (walked_piece c.args.query.now c.args.path c.args.i c.args.work.now c.args.trees.from c.args.trees.to
    c.args.room.from c.args.room.to c.args.divisor (value_err c.in_err-end.was) (c.in_piece.ensures c.if-in_piece.true).0
    ((c.in_piece.ensures c.if-in_piece.true).1 ∙ c.steps.ensures) (omega (arith, c.requires.room, c.requires.area))
    c.requires.room c.copy.ensures)

pub write_over-returns-then-from-end : goal.write_over-returns-then-from-end
write_over-returns-then-from-end t c = (
  kept_here c.args.work.now c.args.room.from c.args.room.to c.requires.room,
  over_empty c.args.query.now c.args.path
      c.args.i c.args.work.now c.args.trees.from c.args.trees.to c.args.room.from c.args.room.to c.args.divisor
      c.if-from-end.true c.requires.room,
)

pub write_over-loop-from-init : goal.write_over-loop-from-init
write_over-loop-from-init t c = (c.requires, omega arith, refl, refl, λ u r h. h)

pub write_over-field_end-m-requires : goal.write_over-field_end-m-requires
write_over-field_end-m-requires t c = omega (arith, walk_places c.loop-from.invariant.0.walk c.loop-from-test.true refl)

pub write_over-write_walk-requires : goal.write_over-write_walk-requires
write_over-write_walk-requires t c =
    (omega (arith, c.decreases), ready_first c.loop-from.invariant.0 c.loop-from-test.true c.field_end-m.ensures)

pub write_over-returns-in_err-one : goal.write_over-returns-in_err-one
write_over-returns-in_err-one t c =
    rw (large_on _ c.from_residual-in_err-one.result c.from_residual-in_err-one.ensures.1) ((
      kept_large c.requires.room (take_less c.loop-from.work c.write_walk.new.work c.args.room.from c.loop-from.to
          c.loop-from.invariant.1 c.write_walk.ensures.0.below ∙ c.loop-from.invariant.3),
      over_walked c.args.query.now
          c.args.path c.args.i c.args.work.now c.args.trees.from c.args.trees.to c.args.room.from c.args.room.to
          c.args.divisor c.if-from-end.false (c.loop-from.invariant.4 c.write_walk.new.work (Err too_large) (walk_stop
          c.args.query.now c.args.path c.args.i c.loop-from.work c.loop-from.from c.args.trees.to c.loop-from.to
          c.args.room.to c.args.divisor c.loop-from.any c.loop-from-test.true c.field_end-m.ensures c.write_walk.ensures.1
          (err_large c.in_err-one.was))),
    ))

pub write_over-loop-from-smaller : goal.write_over-loop-from-smaller
write_over-loop-from-smaller t c =
    omega (arith, (walk_places c.loop-from.invariant.0.walk c.loop-from-test.true c.field_end-m.ensures))

pub write_over-loop-from-preserved : goal.write_over-loop-from-preserved
write_over-loop-from-preserved t c = (
  ready_rest c.loop-from.invariant.0 c.loop-from-test.true c.field_end-m.ensures c.write_walk.ensures.0
      (ok_end c.loop-from.to c.in_ok-one.was c.unwrap_or-to.ensures) c.write_walk.auto.work,
  omega (arith, c.write_walk.ensures.0.after, (ok_end c.loop-from.to c.in_ok-one.was c.unwrap_or-to.ensures)),
  c.write_walk.auto.work ∙ c.loop-from.invariant.2,
  (take_less c.loop-from.work c.write_walk.new.work
      c.args.room.from c.loop-from.to c.loop-from.invariant.1 c.write_walk.ensures.0.below ∙ c.loop-from.invariant.3),
  λ
      u r h. c.loop-from.invariant.4 u r (walk_next c.args.query.now c.args.path c.args.i c.loop-from.work
      c.loop-from.from c.args.trees.to c.loop-from.to c.args.room.to c.args.divisor c.loop-from.any c.loop-from-test.true
      c.field_end-m.ensures c.write_walk.ensures.1 (omega (
        arith,
        c.loop-from.invariant.0.room,
        c.loop-from.invariant.0.area,
      )) c.loop-from.invariant.0.below (ok_small c.in_ok-one.was)
      c.write_walk.ensures.0.below (ok_end c.loop-from.to c.in_ok-one.was c.unwrap_or-to.ensures) (ok_found c.loop-from.any c.in_ok-one.was (search rules)) u r h),
)

pub write_over-returns : goal.write_over-returns
write_over-returns t c = (
  kept_answer c.loop-from.any c.loop-from.to (ap Ok c.then_some.ensures) c.loop-from.invariant.1 c.loop-from.invariant.0.room
      c.loop-from.invariant.3,
  over_walked c.args.query.now c.args.path c.args.i c.args.work.now c.args.trees.from
      c.args.trees.to c.args.room.from c.args.room.to c.args.divisor c.if-from-end.false (c.loop-from.invariant.4
      c.loop-from.work (Ok c.then_some.result) (walk_done c.args.query.now c.args.path c.args.i c.loop-from.work
      c.loop-from.from c.args.trees.to c.loop-from.to c.args.room.to c.args.divisor c.loop-from.any (ap Ok c.then_some.ensures)
      c.loop-from-test.false c.loop-from.invariant.0.room)),
)

pub write_walk-steps-requires : goal.write_walk-steps-requires
write_walk-steps-requires t c = walk_room c.requires.walk

pub write_walk-write_leaf-requires : goal.write_walk-write_leaf-requires
write_walk-write_leaf-requires t c = ready_leaf c.requires

pub write_walk-returns-then-i-steps : goal.write_walk-returns-then-i-steps
write_walk-returns-then-i-steps t c =
    walked_leaf c.args.query.now c.args.path c.args.i c.args.work.now c.args.tree.from c.args.tree.to c.args.room.from
    c.args.room.to c.args.divisor (value_ok c.in_ok-end.was) (c.if-i-steps.true ∙ c.steps.ensures) c.write_leaf.ensures

pub write_walk-returns-in_err-end : goal.write_walk-returns-in_err-end
write_walk-returns-in_err-end t c =
    rw (large_on _ c.from_residual.result c.from_residual.ensures.1) (walked_leaf c.args.query.now c.args.path c.args.i c.args.work.now c.args.tree.from c.args.tree.to c.args.room.from
    c.args.room.to c.args.divisor (value_err c.in_err-end.was) (c.if-i-steps.true ∙ c.steps.ensures) c.write_leaf.ensures)

pub write_walk-under-requires : goal.write_walk-under-requires
write_walk-under-requires t c =
    (walk_inside c.requires.walk (step_left c.requires.walk c.steps.ensures c.if-i-steps.false), c.requires.walk.stands)

pub write_walk-returns-in_default : goal.write_walk-returns-in_default
write_walk-returns-in_default t c = (
  kept_none c.args.work.now c.args.room.from c.args.room.to c.requires.room,
  walk_missing c.args.query.now
      c.args.path c.args.i c.args.work.now c.args.tree.from c.args.tree.to c.args.room.from c.args.room.to c.args.divisor
      (step_left c.requires.walk c.steps.ensures c.if-i-steps.false) c.under.ensures c.in_default.is,
)

pub write_walk-overflow_add-i : goal.write_walk-overflow_add-i
write_walk-overflow_add-i t c =
    omega (
      arith,
      (step_left c.requires.walk c.steps.ensures c.if-i-steps.false),
      (steps_fewer c.args.query.now
          c.args.path),
    )

pub write_walk-write_over-requires : goal.write_walk-write_over-requires
write_walk-write_over-requires t c = (
  omega (
    arith,
    c.decreases,
    (step_left c.requires.walk c.steps.ensures c.if-i-steps.false),
    (steps_fewer
        c.args.query.now c.args.path),
  ),
  ready_under c.requires (step_left c.requires.walk c.steps.ensures
      c.if-i-steps.false) c.under.ensures c.in-Some.is,
)

pub write_walk-returns : goal.write_walk-returns
write_walk-returns t c = (
  c.write_over.ensures.0,
  walk_under c.args.query.now c.args.path c.args.i c.args.work.now c.args.tree.from
      c.args.tree.to c.args.room.from c.args.room.to c.args.divisor (step_left c.requires.walk c.steps.ensures
      c.if-i-steps.false) c.under.ensures c.in-Some.is c.write_over.ensures.1,
)
