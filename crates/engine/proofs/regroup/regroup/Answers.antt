-- The proof of engine::regroup::regroup, by answers to its goals.
use Rattle.std.proofs.Common.{sym, ◌∙◌, arith, length-take-le}
use Rattle.spec_trees.specs.Limits.{work_min}
use Rattle.spec_trees.specs.ByteLaws.{bytes_are}
use Rattle.spec_run.specs.Regroup.{regroup_call}
use Rattle.engine.specs.PerformLaws.{lent_length, lent_clear}
use Rattle.engine.specs.RegroupLaws.{again_enough, again_ready, again_answered, again_refused}
use Rattle.engine.proofs.regroup.regroup.Goals as goal

pub slice_bounds-perform_again-end : goal.slice_bounds-perform_again-end
slice_bounds-perform_again-end c =
    again_enough (regroup_call c.args.query.now c.args.first.now c.args.second.now c.args.work.now c.args.res.now)
    c.check_regroup.ensures (bytes_are c.args.first.now (λ k. omega (arith, c.type_inv.first k)))
    (bytes_are c.args.second.now (λ k. omega (arith, c.type_inv.second k))) c.in-Ok.is

pub slice_bounds-perform_again-end-in-Ok : goal.slice_bounds-perform_again-end-in-Ok
slice_bounds-perform_again-end-in-Ok c =
    sym (length-take-le work_min c.args.work.now (again_enough (regroup_call c.args.query.now c.args.first.now
    c.args.second.now c.args.work.now c.args.res.now) c.check_regroup.ensures
    (bytes_are c.args.first.now (λ k. omega (arith, c.type_inv.first k)))
    (bytes_are c.args.second.now (λ k. omega (arith, c.type_inv.second k))) c.in-Ok.is))

pub perform_again-answer-requires : goal.perform_again-answer-requires
perform_again-answer-requires c =
    let this = regroup_call c.args.query.now c.args.first.now c.args.second.now c.args.work.now c.args.res.now in
    let first = bytes_are c.args.first.now (λ k. omega (arith, c.type_inv.first k)) in
    let second = bytes_are c.args.second.now (λ k. omega (arith, c.type_inv.second k)) in
    again_ready this c.check_regroup.ensures first second c.in-Ok.is _ (length-take-le work_min c.args.work.now
    (again_enough this c.check_regroup.ensures first second c.in-Ok.is))

pub shape_of-work-in-Ok : goal.shape_of-work-in-Ok
shape_of-work-in-Ok c =
    c.clear.auto.area ∙ lent_length work_min c.args.work.now c.perform_again-answer.new.work (again_enough (regroup_call
    c.args.query.now c.args.first.now c.args.second.now c.args.work.now c.args.res.now) c.check_regroup.ensures
    (bytes_are c.args.first.now (λ k. omega (arith, c.type_inv.first k)))
    (bytes_are c.args.second.now (λ k. omega (arith, c.type_inv.second k))) c.in-Ok.is) c.perform_again-answer.auto.work

pub returns-in-Ok : goal.returns-in-Ok
returns-in-Ok c =
    let this = regroup_call c.args.query.now c.args.first.now c.args.second.now c.args.work.now c.args.res.now in
    let first = bytes_are c.args.first.now (λ k. omega (arith, c.type_inv.first k)) in
    let second = bytes_are c.args.second.now (λ k. omega (arith, c.type_inv.second k)) in
    again_answered this c.check_regroup.ensures first second c.in-Ok.is c.perform_again-answer.ensures
    (lent_clear work_min c.args.work.now c.perform_again-answer.new.work
    (again_enough this c.check_regroup.ensures first second c.in-Ok.is) c.perform_again-answer.auto.work c.clear.ensures)

pub returns-in-Err : goal.returns-in-Err
returns-in-Err c =
    again_refused (regroup_call c.args.query.now c.args.first.now c.args.second.now c.args.work.now
    c.args.res.now) c.check_regroup.ensures c.in-Err.is c.refuse.ensures.0 c.refuse.ensures.1
