use Rattle.std.proofs.Common.{◌-◌}
use Rattle.positions.specs.EntriesLaws as law
use Rattle.positions.proofs.entries.write_entries.Given as goal

abbrev pub invariant-loop-at : goal.invariant-loop-at
invariant-loop-at l = law.Going l.work l.initial.entries l.len l.entries l.i l.at

abbrev pub decreases-loop-at : goal.decreases-loop-at
decreases-loop-at l = l.len - l.at
