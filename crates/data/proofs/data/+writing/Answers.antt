-- The proof of the cycle of data::data that writes data, by answers to its goals: nesting left falls, and what is
-- right for the members from `at` on, behind what was written, is right for all.
use Rattle.std.proofs.Common.{Ok, Err, rules, ap, arith, refl, ◌∙◌}
use Rattle.queries.specs.PartLaws.{holds_of}
use Rattle.data.specs.ValueLaws.{ok_small, err_large, ok_end, ok_found, large_on}
use Rattle.data.specs.WriteDataLaws.{left_some, literal_places, path_ready, listed_ready, test_ready, choice_judged, choice_first, choice_second, reduced_ready, gives_literal, gives_path, gives_listed, gives_test, gives_first, gives_second, gives_reduced, list_done, list_places, list_first, list_rest, list_stop, list_next}
use Rattle.data.proofs.data.+writing.Goals as goal
use Rattle.std.specs.Prelude.{Err}
use Rattle.areas.specs.Area.{too_large}

pub write_data-data_at-x-requires : goal.write_data-data_at-x-requires
write_data-data_at-x-requires t c = holds_of c.requires.asked

pub write_data-write_literal-requires : goal.write_data-write_literal-requires
write_data-write_literal-requires t c =
    let p = literal_places c.args.left c.data_at-x.ensures c.requires c.in-Literal.is in
    (p.0, p.1, c.requires.room, c.requires.area)

pub write_data-write_path-requires : goal.write_data-write_path-requires
write_data-write_path-requires t c = path_ready c.args.left c.data_at-x.ensures c.requires c.in-Path.is

pub write_data-overflow_sub-left : goal.write_data-overflow_sub-left
write_data-overflow_sub-left t c = omega (arith, (left_some c.args.left c.data_at-x.ensures c.requires))

pub write_data-write_list-requires : goal.write_data-write_list-requires
write_data-write_list-requires t c = (
  omega (arith, c.decreases, (left_some c.args.left c.data_at-x.ensures c.requires)),
  listed_ready c.args.left
      c.data_at-x.ensures c.requires c.in-Listed.is,
)

pub write_data-overflow_sub-left-in-Test : goal.write_data-overflow_sub-left-in-Test
write_data-overflow_sub-left-in-Test t c = omega (arith, (left_some c.args.left c.data_at-x.ensures c.requires))

pub write_data-write_test-requires : goal.write_data-write_test-requires
write_data-write_test-requires t c = test_ready c.args.left c.data_at-x.ensures c.requires c.in-Test.is

pub write_data-overflow_sub-left-in-Choice : goal.write_data-overflow_sub-left-in-Choice
write_data-overflow_sub-left-in-Choice t c = omega (arith, (left_some c.args.left c.data_at-x.ensures c.requires))

pub write_data-holds-requires : goal.write_data-holds-requires
write_data-holds-requires t c = choice_judged c.args.left c.data_at-x.ensures c.requires c.in-Choice.is

pub write_data-overflow_sub-left-then-holds : goal.write_data-overflow_sub-left-then-holds
write_data-overflow_sub-left-then-holds t c = omega (arith, (left_some c.args.left c.data_at-x.ensures c.requires))

pub write_data-write_data-requires : goal.write_data-write_data-requires
write_data-write_data-requires t c = (
  omega (arith, c.decreases, (left_some c.args.left c.data_at-x.ensures c.requires)),
  choice_first c.args.left
      c.data_at-x.ensures c.requires c.in-Choice.is,
)

pub write_data-returns-then-holds : goal.write_data-returns-then-holds
write_data-returns-then-holds t c =
    gives_first c.args.left c.data_at-x.ensures c.in-Choice.is c.holds.ensures c.if-holds.true c.write_data.ensures

pub write_data-overflow_sub-left-in-Choice-2 : goal.write_data-overflow_sub-left-in-Choice-2
write_data-overflow_sub-left-in-Choice-2 t c = omega (arith, (left_some c.args.left c.data_at-x.ensures c.requires))

pub write_data-write_data-requires-in-Choice : goal.write_data-write_data-requires-in-Choice
write_data-write_data-requires-in-Choice t c = (
  omega (arith, c.decreases, (left_some c.args.left c.data_at-x.ensures c.requires)),
  choice_second c.args.left
      c.data_at-x.ensures c.requires c.in-Choice.is,
)

pub write_data-write_reduced-requires : goal.write_data-write_reduced-requires
write_data-write_reduced-requires t c = reduced_ready c.args.left c.data_at-x.ensures c.requires c.in-Reduced.is

pub write_data-returns-in-Literal : goal.write_data-returns-in-Literal
write_data-returns-in-Literal t c =
    gives_literal c.args.left c.data_at-x.ensures c.in-Literal.is c.write_literal.ensures

pub write_data-returns-in-Path : goal.write_data-returns-in-Path
write_data-returns-in-Path t c = gives_path c.args.left c.data_at-x.ensures c.in-Path.is c.write_path.ensures

pub write_data-returns-in-Listed : goal.write_data-returns-in-Listed
write_data-returns-in-Listed t c = gives_listed c.args.left c.data_at-x.ensures c.in-Listed.is c.write_list.ensures

pub write_data-returns-in-Test : goal.write_data-returns-in-Test
write_data-returns-in-Test t c = gives_test c.args.left c.data_at-x.ensures c.in-Test.is c.write_test.ensures

pub write_data-returns-else-holds : goal.write_data-returns-else-holds
write_data-returns-else-holds t c =
    gives_second c.args.left c.data_at-x.ensures c.in-Choice.is c.holds.ensures c.if-holds.false
    c.write_data-in-Choice.ensures

pub write_data-returns-in-Reduced : goal.write_data-returns-in-Reduced
write_data-returns-in-Reduced t c =
    gives_reduced c.args.left c.data_at-x.ensures c.in-Reduced.is c.write_reduced.ensures

pub write_list-loop-at-init : goal.write_list-loop-at-init
write_list-loop-at-init t c = (c.requires, refl, λ u r h. h)

pub write_list-field_end-m-requires : goal.write_list-field_end-m-requires
write_list-field_end-m-requires t c =
    omega (
      arith,
      list_places c.args.query.now c.loop-at.at c.args.members.to c.loop-at.work c.args.tree.from
          c.args.tree.to c.loop-at.to c.args.room.to c.args.left c.loop-at-test.true refl c.loop-at.invariant.0,
    )

pub write_list-write_data-requires : goal.write_list-write_data-requires
write_list-write_data-requires t c = (
  omega (arith, c.decreases),
  list_first c.args.query.now c.loop-at.at c.args.members.to c.loop-at.work
      c.args.tree.from c.args.tree.to c.loop-at.to c.args.room.to c.args.left c.loop-at-test.true c.field_end-m.ensures
      c.loop-at.invariant.0,
)

pub write_list-returns-in_err-one : goal.write_list-returns-in_err-one
write_list-returns-in_err-one t c =
    rw (large_on _ c.from_residual.result c.from_residual.ensures.1) (c.loop-at.invariant.2 c.write_data.new.work (Err too_large) (list_stop c.args.query.now c.loop-at.at
    c.args.members.to c.loop-at.work c.args.tree.from c.args.tree.to c.loop-at.to c.args.room.to c.args.left
    c.loop-at-test.true c.field_end-m.ensures c.loop-at.any c.write_data.ensures (err_large c.in_err-one.was)))

pub write_list-loop-at-smaller : goal.write_list-loop-at-smaller
write_list-loop-at-smaller t c =
    omega (
      arith,
      (list_places c.args.query.now c.loop-at.at c.args.members.to c.loop-at.work c.args.tree.from
          c.args.tree.to c.loop-at.to c.args.room.to c.args.left c.loop-at-test.true c.field_end-m.ensures
          c.loop-at.invariant.0),
    )

pub write_list-loop-at-preserved : goal.write_list-loop-at-preserved
write_list-loop-at-preserved t c = (
  list_rest c.args.query.now c.loop-at.at c.args.members.to c.loop-at.work c.args.tree.from c.args.tree.to
      c.loop-at.to c.args.room.to c.args.left c.loop-at-test.true c.field_end-m.ensures c.loop-at.invariant.0
      c.write_data.ensures (ok_end c.loop-at.to c.in_ok-one.was c.unwrap_or-to.ensures) c.write_data.auto.work,
  c.write_data.auto.work ∙
      c.loop-at.invariant.1,
  λ u r h. c.loop-at.invariant.2 u r (list_next c.args.query.now c.loop-at.at c.args.members.to
      c.loop-at.work c.args.tree.from c.args.tree.to c.loop-at.to c.args.room.to c.args.left c.loop-at-test.true
      c.field_end-m.ensures c.loop-at.any c.write_data.ensures (omega (
        arith,
        c.loop-at.invariant.0.room,
        c.loop-at.invariant.0.area,
      )) c.loop-at.invariant.0.below (ok_small c.in_ok-one.was)
      (ok_end c.loop-at.to c.in_ok-one.was c.unwrap_or-to.ensures) (ok_found c.loop-at.any c.in_ok-one.was (search rules)) u r h),
)

pub write_list-returns : goal.write_list-returns
write_list-returns t c =
    c.loop-at.invariant.2 c.loop-at.work (Ok c.then_some.result) (list_done c.args.query.now c.loop-at.at c.args.members.to
    c.loop-at.work c.args.tree.from c.args.tree.to c.loop-at.to c.args.room.to c.args.left c.loop-at.any
    (ap Ok c.then_some.ensures) c.loop-at-test.false c.loop-at.invariant.0.room)
