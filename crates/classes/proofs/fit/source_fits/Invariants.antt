use Rattle.std.proofs.Common.{◌-◌}
use Rattle.classes.specs.Read.{reached}
use Rattle.classes.specs.FitLaws.{FitGoing}
use Rattle.classes.proofs.fit.source_fits.Given as goal

abbrev pub invariant-loop-from : goal.invariant-loop-from
invariant-loop-from l = FitGoing l.work l.len l.query l.source (reached l.from l.count)

abbrev pub decreases-loop-from : goal.decreases-loop-from
decreases-loop-from l = l.len - l.from
