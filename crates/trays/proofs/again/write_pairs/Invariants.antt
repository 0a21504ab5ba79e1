use Rattle.std.proofs.Common.{◌-◌}
use Rattle.areas.specs.Area.{span}
use Rattle.trays.specs.AgainLaws.{PairsGoing}
use Rattle.trays.proofs.again.write_pairs.Given as goal

abbrev pub invariant-loop-from : goal.invariant-loop-from
invariant-loop-from l = PairsGoing l.initial.out l.at l.query (span l.initial.from l.end) l.out l.to l.from

abbrev pub decreases-loop-from : goal.decreases-loop-from
decreases-loop-from l = l.end - l.from
