use Rattle.std.proofs.Common.{length, ◌≡◌, ◌-◌}
use Rattle.key_index.specs.Index.{Collected}
use Rattle.key_index.specs.AllLaws as law
use Rattle.key_index.proofs.enter.enter_all.Given as goal

abbrev pub invariant-loop-at : goal.invariant-loop-at
invariant-loop-at l =
    (length l.work ≡ length l.initial.work) × ((d : Collected l.initial.work l.query l.keys l.len) → law.EnteringAll
    l.initial.work l.query l.keys l.len d l.work l.at)

abbrev pub decreases-loop-at : goal.decreases-loop-at
decreases-loop-at l = l.end - l.at
