-- The proof of data::data::write_path_over, by answers to its goals: what is right for the trees from `from` on, behind
-- what was written, is right for all.
use Rattle.std.proofs.Common.{Ok, Err, rules, ap, arith, refl, ◌∙◌}
use Rattle.paths.specs.WalkLaws.{walk_places}
use Rattle.data.specs.ValueLaws.{ok_small, err_large, ok_end, ok_found, large_on}
use Rattle.data.specs.WritePathLaws.{over_empty, over_walked, walk_done, walk_stop, walk_next, ready_first, ready_rest}
use Rattle.data.specs.WriteDataLaws.{over_plain}
use Rattle.data.proofs.data.write_path_over.Goals as goal
use Rattle.std.specs.Prelude.{Some, Err, Ok}
use Rattle.areas.specs.Area.{too_large}

pub returns-then-from-end : goal.returns-then-from-end
returns-then-from-end c =
    over_plain c.args.query.now c.args.path 0 c.args.work.now c.args.work.now c.args.trees.from c.args.trees.to
    c.args.room.from c.args.room.to (Ok (Some c.args.room.from)) (over_empty c.args.query.now c.args.path 0
    c.args.work.now c.args.trees.from c.args.trees.to c.args.room.from c.args.room.to 0 c.if-from-end.true
    c.requires.room)

pub loop-from-init : goal.loop-from-init
loop-from-init c = (c.requires, refl, λ u r h. h)

pub field_end-m-requires : goal.field_end-m-requires
field_end-m-requires c = omega (arith, walk_places c.loop-from.invariant.0.walk c.loop-from-test.true refl)

pub write_part-requires : goal.write_part-requires
write_part-requires c = ready_first c.loop-from.invariant.0 c.loop-from-test.true c.field_end-m.ensures

pub returns-in_err-one : goal.returns-in_err-one
returns-in_err-one c =
    rw (large_on _ c.from_residual.result c.from_residual.ensures.1) (over_plain c.args.query.now c.args.path 0 c.args.work.now c.write_part.new.work c.args.trees.from c.args.trees.to
    c.args.room.from c.args.room.to (Err too_large) (over_walked c.args.query.now c.args.path 0 c.args.work.now
    c.args.trees.from c.args.trees.to c.args.room.from c.args.room.to 0 c.if-from-end.false (c.loop-from.invariant.2
    c.write_part.new.work (Err too_large) (walk_stop c.args.query.now c.args.path 0 c.loop-from.work c.loop-from.from
    c.args.trees.to c.loop-from.to c.args.room.to 0 c.loop-from.any c.loop-from-test.true c.field_end-m.ensures
    c.write_part.ensures.1 (err_large c.in_err-one.was)))))

pub loop-from-smaller : goal.loop-from-smaller
loop-from-smaller c =
    omega (arith, walk_places c.loop-from.invariant.0.walk c.loop-from-test.true c.field_end-m.ensures)

pub loop-from-preserved : goal.loop-from-preserved
loop-from-preserved c = (
  ready_rest c.loop-from.invariant.0 c.loop-from-test.true c.field_end-m.ensures c.write_part.ensures.0
      (ok_end c.loop-from.to c.in_ok-one.was c.unwrap_or-to.ensures) c.write_part.auto.work,
  c.write_part.auto.work ∙ c.loop-from.invariant.1,
  λ u r h.
      c.loop-from.invariant.2 u r (walk_next c.args.query.now c.args.path 0 c.loop-from.work c.loop-from.from
      c.args.trees.to c.loop-from.to c.args.room.to 0 c.loop-from.any c.loop-from-test.true c.field_end-m.ensures
      c.write_part.ensures.1 (omega (arith, c.loop-from.invariant.0.room, c.loop-from.invariant.0.area))
      c.loop-from.invariant.0.below (ok_small c.in_ok-one.was) c.write_part.ensures.0.below
      (ok_end c.loop-from.to c.in_ok-one.was c.unwrap_or-to.ensures) (ok_found c.loop-from.any c.in_ok-one.was (search rules)) u r h),
)

pub returns : goal.returns
returns c =
    over_plain c.args.query.now c.args.path 0 c.args.work.now c.loop-from.work c.args.trees.from c.args.trees.to
    c.args.room.from c.args.room.to (Ok c.then_some.result) (over_walked c.args.query.now c.args.path 0 c.args.work.now
    c.args.trees.from c.args.trees.to c.args.room.from c.args.room.to 0 c.if-from-end.false (c.loop-from.invariant.2
    c.loop-from.work (Ok c.then_some.result) (walk_done c.args.query.now c.args.path 0 c.loop-from.work c.loop-from.from
    c.args.trees.to c.loop-from.to c.args.room.to 0 c.loop-from.any (ap Ok c.then_some.ensures) c.loop-from-test.false
    c.loop-from.invariant.0.room)))
