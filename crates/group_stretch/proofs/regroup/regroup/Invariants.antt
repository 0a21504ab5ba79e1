use Rattle.std.proofs.Common.{◌-◌}
use Rattle.classes.specs.Read.{reached}
use Rattle.group_stretch.specs.GroupLaws as law
use Rattle.group_stretch.proofs.regroup.regroup.Given as goal

abbrev pub invariant-loop-from : goal.invariant-loop-from
invariant-loop-from l = law.GroupGoing l.initial.work l.len l.query l.at l.joined l.work l.held (reached l.from l.count)

abbrev pub decreases-loop-from : goal.decreases-loop-from
decreases-loop-from l = l.len - l.from
