-- The proof of engine::run::run, by answers to its goals.
use Rattle.std.proofs.Common.{sym, ◌∙◌, arith, length-take-le}
use Rattle.spec_trees.specs.Limits.{work_min}
use Rattle.spec_trees.specs.ByteLaws.{bytes_are}
use Rattle.spec_run.specs.Run.{call}
use Rattle.engine.specs.PerformLaws.{passed_forms, passed_enough, passed_entries, passed_answered, refused_answered, lent_length, lent_clear}
use Rattle.engine.proofs.run.run.Goals as goal

pub slice_bounds-perform-end : goal.slice_bounds-perform-end
slice_bounds-perform-end c =
    passed_enough (call c.args.query.now c.args.input.now c.args.joined.now c.args.work.now c.args.res.now
    c.args.positions.now) (bytes_are c.args.query.now (λ k. omega (arith, c.type_inv.query k)))
    (bytes_are c.args.input.now (λ k. omega (arith, c.type_inv.input k)))
    (bytes_are c.args.joined.now (λ k. omega (arith, c.type_inv.joined k))) (sym c.check_call.ensures ∙ c.in_default.is)

pub slice_bounds-perform-end-2 : goal.slice_bounds-perform-end-2
slice_bounds-perform-end-2 c =
    sym (length-take-le work_min c.args.work.now (passed_enough (call c.args.query.now c.args.input.now
    c.args.joined.now c.args.work.now c.args.res.now c.args.positions.now)
    (bytes_are c.args.query.now (λ k. omega (arith, c.type_inv.query k)))
    (bytes_are c.args.input.now (λ k. omega (arith, c.type_inv.input k)))
    (bytes_are c.args.joined.now (λ k. omega (arith, c.type_inv.joined k))) (sym c.check_call.ensures ∙
    c.in_default.is)))

pub perform-answer-requires : goal.perform-answer-requires
perform-answer-requires c =
    let this = call c.args.query.now c.args.input.now c.args.joined.now c.args.work.now c.args.res.now
    c.args.positions.now in
    let query = bytes_are c.args.query.now (λ k. omega (arith, c.type_inv.query k)) in
    let input = bytes_are c.args.input.now (λ k. omega (arith, c.type_inv.input k)) in
    let joined = bytes_are c.args.joined.now (λ k. omega (arith, c.type_inv.joined k)) in
    let passed = sym c.check_call.ensures ∙ c.in_default.is in (
      passed_forms this query input joined passed,
      length-take-le work_min c.args.work.now (passed_enough this query input joined passed),
      passed_entries this query input joined passed,
    )

pub shape_of-work : goal.shape_of-work
shape_of-work c =
    c.clear.auto.area ∙ lent_length work_min c.args.work.now c.perform-answer.new.work (passed_enough (call
    c.args.query.now c.args.input.now c.args.joined.now c.args.work.now c.args.res.now c.args.positions.now)
    (bytes_are c.args.query.now (λ k. omega (arith, c.type_inv.query k)))
    (bytes_are c.args.input.now (λ k. omega (arith, c.type_inv.input k)))
    (bytes_are c.args.joined.now (λ k. omega (arith, c.type_inv.joined k))) (sym c.check_call.ensures ∙
    c.in_default.is)) c.perform-answer.auto.work

pub returns : goal.returns
returns c =
    let this = call c.args.query.now c.args.input.now c.args.joined.now c.args.work.now c.args.res.now
    c.args.positions.now in
    let query = bytes_are c.args.query.now (λ k. omega (arith, c.type_inv.query k)) in
    let input = bytes_are c.args.input.now (λ k. omega (arith, c.type_inv.input k)) in
    let joined = bytes_are c.args.joined.now (λ k. omega (arith, c.type_inv.joined k)) in
    let passed = sym c.check_call.ensures ∙ c.in_default.is in
    passed_answered this query input joined passed c.perform-answer.ensures (lent_clear work_min c.args.work.now
    c.perform-answer.new.work (passed_enough this query input joined passed) c.perform-answer.auto.work c.clear.ensures)

pub returns-in-Err : goal.returns-in-Err
returns-in-Err c =
    refused_answered (call c.args.query.now c.args.input.now c.args.joined.now c.args.work.now c.args.res.now
    c.args.positions.now) (sym c.check_call.ensures ∙ c.in-Err.is) c.refuse.ensures.0 c.refuse.ensures.1
