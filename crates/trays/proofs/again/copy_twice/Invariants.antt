use Rattle.std.proofs.Common.{◌≤◌, length}
use Rattle.trays.specs.AgainLaws.{TwiceGoing}
use Rattle.trays.proofs.again.copy_twice.Given as goal

abbrev pub invariant-loop-i : goal.invariant-loop-i
invariant-loop-i l = (l.i ≤ length l.source) × TwiceGoing l.initial.out l.at l.source l.out l.i
