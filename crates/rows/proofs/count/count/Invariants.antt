-- `count` ends: each turn leaves a row behind. So there are no more rows than bytes, and no more agree than there are.
use Rattle.std.proofs.Common.{◌+◌, ◌≤◌, length}
use Rattle.rows.proofs.count.count.Given as goal

abbrev pub invariant-loop-rest : goal.invariant-loop-rest
invariant-loop-rest g l = (l.rows + length l.rest ≤ length l.text) × (l.agree ≤ l.rows)

abbrev pub decreases-loop-rest : goal.decreases-loop-rest
decreases-loop-rest g l = length l.rest
