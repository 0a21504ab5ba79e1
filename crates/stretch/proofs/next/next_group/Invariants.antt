use Rattle.std.proofs.Common.{◌-◌, Option}
use Rattle.areas.specs.Area.{span}
use Rattle.format.specs.Stand.{Holds}
use Rattle.queries.specs.Places.{stages_bytes}
use Rattle.stretch.specs.declared.next.StretchAt.{StretchAt}
use Rattle.stretch.specs.Next.{NextPost}
use Rattle.stretch.proofs.next.next_group.Given as goal

abbrev pub invariant-loop-at : goal.invariant-loop-at
invariant-loop-at l =
    Holds stages_bytes l.query l.at l.to × ((r : Option StretchAt) → NextPost l.query (span l.at l.to) r → NextPost l.query (span
    l.initial.at l.to) r)

abbrev pub decreases-loop-at : goal.decreases-loop-at
decreases-loop-at l = l.to - l.at
