-- The proof of checks::check::check_areas, by answers to its goals.
use Rattle.std.proofs.Common.{arith, sym, ◌∙◌}
use Rattle.checks.specs.CheckLaws.{refusal_on, areas_work, areas_short, areas_enough}
use Rattle.checks.proofs.check.check_areas.Goals as goal

pub returns-in_err-check_work : goal.returns-in_err-check_work
returns-in_err-check_work c =
    rw (refusal_on c.from_residual.result c.from_residual.ensures.1) (sym c.in_err-check_work.was ∙ areas_work c.args.work c.args.entries c.check_work.ensures c.in_err-check_work.was)

pub returns-then-entries-lt-POSITIONS : goal.returns-then-entries-lt-POSITIONS
returns-then-entries-lt-POSITIONS c =
    areas_short c.args.work c.args.entries c.check_work.ensures c.in_ok-check_work.was c.if-entries-lt-POSITIONS.true

pub returns : goal.returns
returns c =
    areas_enough c.args.work c.args.entries c.check_work.ensures c.in_ok-check_work.was (omega (
      arith,
      c.if-entries-lt-POSITIONS.false,
    ))
