-- `from_line` ends: each turn leaves a line behind.
use Rattle.std.proofs.Common.{◌≤◌, length}
use Rattle.row_text.proofs.lines.from_line.Given as goal

abbrev pub invariant-loop-is_wanted : goal.invariant-loop-is_wanted
invariant-loop-is_wanted g l = length l.rest ≤ length l.text

abbrev pub decreases-loop-is_wanted : goal.decreases-loop-is_wanted
decreases-loop-is_wanted g l = length l.rest
