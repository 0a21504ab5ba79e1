use Rattle.key_index.specs.Entering.{Search}
use Rattle.key_index.specs.SearchLaws as law
use Rattle.key_index.proofs.enter.last_like.Given as goal

abbrev pub invariant-loop-at : goal.invariant-loop-at
invariant-loop-at l = (s : Search l.work l.query l.keys l.tree l.last) → law.At s l.at

abbrev pub decreases-loop-at : goal.decreases-loop-at
decreases-loop-at l = l.at
