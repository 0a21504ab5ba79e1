-- The proof of checks::check::check_work, by answers to its goals.
use Rattle.std.proofs.Common.{arith}
use Rattle.checks.specs.CheckLaws.{work_short, work_enough}
use Rattle.checks.proofs.check.check_work.Goals as goal

pub returns-then-work-lt-WORK : goal.returns-then-work-lt-WORK
returns-then-work-lt-WORK c = work_short c.args.work c.if-work-lt-WORK.true

pub returns : goal.returns
returns c = work_enough c.args.work (omega (arith, c.if-work-lt-WORK.false))
