-- The proof of checks::check::check_call, by answers to its goals.
use Rattle.std.proofs.Common.{refl, sym, ◌∙◌}
use Rattle.checks.specs.CheckLaws.{refusal_on, prepared_first, prepared_second, call_prepared, call_arrays}
use Rattle.checks.proofs.check.check_call.Goals as goal

pub returns-in_err-check_areas : goal.returns-in_err-check_areas
returns-in_err-check_areas c =
    let e = prepared_first c.args.query.now c.check_areas.ensures c.in_err-check_areas.was in
    rw (refusal_on c.from_residual.result c.from_residual.ensures.1) (sym e ∙ call_prepared c.args.query.now
    c.args.input.now c.args.joined.now c.args.work c.args.entries refl e)

pub returns-in_err-check_prepared : goal.returns-in_err-check_prepared
returns-in_err-check_prepared c =
    let e = prepared_second c.args.query.now c.check_areas.ensures c.in_ok-check_areas.was c.check_prepared.ensures
    c.in_err-check_prepared.was in
    rw (refusal_on c.from_residual-in_err-check_prepared.result c.from_residual-in_err-check_prepared.ensures.1) (sym e ∙
    call_prepared c.args.query.now c.args.input.now c.args.joined.now c.args.work c.args.entries refl e)

pub returns : goal.returns
returns c =
    call_arrays c.args.query.now c.args.input.now c.args.joined.now c.args.work c.args.entries refl (prepared_second
    c.args.query.now c.check_areas.ensures c.in_ok-check_areas.was c.check_prepared.ensures c.in_ok-check_prepared.was)
    c.check_arrays.ensures
