-- The proof of checks::check::check_trays, by answers to its goals.
use Rattle.std.proofs.Common.{arith}
use Rattle.spec_trees.specs.ByteLaws.{bytes_are}
use Rattle.checks.specs.CheckLaws.{refusal_on}
use Rattle.checks.specs.RegroupCheckLaws.{trays_other, trays_passed, trays_refused}
use Rattle.checks.proofs.check.check_trays.Goals as goal

pub returns-in_default : goal.returns-in_default
returns-in_default c =
    trays_other c.args.query.now c.args.first.now c.args.second.now (bytes_are c.args.query.now (λ k. omega (
      arith,
      c.type_inv.query k,
    ))) c.tray_group.ensures c.in_default.is

pub returns : goal.returns
returns c =
    trays_passed c.args.query.now c.args.first.now c.args.second.now (bytes_are c.args.query.now (λ k. omega (
      arith,
      c.type_inv.query k,
    ))) c.tray_group.ensures c.check_arrays.ensures
    c.in-Some.is c.requires c.in_ok-check_arrays.was

pub returns-in_err-check_arrays : goal.returns-in_err-check_arrays
returns-in_err-check_arrays c =
    rw (refusal_on c.from_residual.result c.from_residual.ensures.1) (trays_refused c.args.query.now c.args.first.now
    c.args.second.now (bytes_are c.args.query.now (λ k. omega (arith, c.type_inv.query k))) c.tray_group.ensures
    c.check_arrays.ensures
    c.in-Some.is c.in_err-check_arrays.was)
