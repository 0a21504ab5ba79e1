-- The proof of checks::check::check_regroup, by answers to its goals.
use Rattle.std.proofs.Common.{refl, arith}
use Rattle.spec_trees.specs.ByteLaws.{bytes_are}
use Rattle.checks.specs.CheckLaws.{refusal_on, prepared_first, prepared_second}
use Rattle.checks.specs.RegroupCheckLaws.{prepared_form, regroup_checked, regroup_refused}
use Rattle.checks.proofs.check.check_regroup.Goals as goal

pub returns-in_err-check_work : goal.returns-in_err-check_work
returns-in_err-check_work c =
    rw (refusal_on c.from_residual.result c.from_residual.ensures.1) (regroup_refused c.args.query.now c.args.first.now
    c.args.second.now c.args.work refl (prepared_first c.args.query.now c.check_work.ensures c.in_err-check_work.was))

pub returns-in_err-check_prepared : goal.returns-in_err-check_prepared
returns-in_err-check_prepared c =
    rw (refusal_on c.from_residual-in_err-check_prepared.result c.from_residual-in_err-check_prepared.ensures.1)
    (regroup_refused c.args.query.now c.args.first.now c.args.second.now c.args.work refl (prepared_second
    c.args.query.now c.check_work.ensures c.in_ok-check_work.was c.check_prepared.ensures c.in_err-check_prepared.was))

pub check_trays-requires : goal.check_trays-requires
check_trays-requires c =
    prepared_form c.args.query.now c.args.first.now c.args.second.now c.args.work refl (bytes_are c.args.query.now (λ
    k. omega (arith, c.type_inv.query k))) (prepared_second c.args.query.now c.check_work.ensures
    c.in_ok-check_work.was c.check_prepared.ensures c.in_ok-check_prepared.was)

pub returns : goal.returns
returns c =
    regroup_checked c.args.query.now c.args.first.now c.args.second.now c.args.work refl (prepared_second
    c.args.query.now c.check_work.ensures c.in_ok-check_work.was c.check_prepared.ensures c.in_ok-check_prepared.was)
    c.check_trays.ensures
