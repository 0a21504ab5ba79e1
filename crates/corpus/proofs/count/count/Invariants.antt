-- No more cases agree than there were.
use Rattle.std.proofs.Common.{◌≤◌}
use Rattle.corpus.proofs.count.count.Given as goal

abbrev pub invariant-loop-before : goal.invariant-loop-before
invariant-loop-before g l = l.agree ≤ l.before
