use Rattle.std.proofs.Common.{◌*◌, ◌+◌, ◌-◌}
use Rattle.stream.specs.Unwinding.{Unwinding, LeftFrom, LeftUnder}
use Rattle.stream.proofs.feed.+feeding.Given as goal

abbrev pub decreases-feed : goal.decreases-feed
decreases-feed l = 4 * (l.stages.to - l.stages.from)

abbrev pub decreases-feed_each : goal.decreases-feed_each
decreases-feed_each l = 4 * (l.at.next.to - l.at.next.from) + 1

abbrev pub decreases-feed_elements : goal.decreases-feed_elements
decreases-feed_elements l = 4 * (l.at.next.to - l.at.next.from) + 2

abbrev pub decreases-feed_looked : goal.decreases-feed_looked
decreases-feed_looked l = 4 * (l.stages.to - l.stages.from) + 1

abbrev pub decreases-feed_matched : goal.decreases-feed_matched
decreases-feed_matched l = 4 * (l.at.next.to - l.at.next.from) + 1

abbrev pub decreases-feed_outcomes : goal.decreases-feed_outcomes
decreases-feed_outcomes l = 4 * (l.at.next.to - l.at.next.from) + 1

abbrev pub decreases-feed_projected : goal.decreases-feed_projected
decreases-feed_projected l = 4 * (l.at.next.to - l.at.next.from) + 1

abbrev pub decreases-feed_unwound : goal.decreases-feed_unwound
decreases-feed_unwound l = 4 * (l.at.next.to - l.at.next.from) + 3

abbrev pub invariant-feed_each-loop-from : goal.invariant-feed_each-loop-from
invariant-feed_each-loop-from l =
    Unwinding (LeftUnder l.entry.label l.initial.tail l.from l.stop) l.initial.tail l.end l.query l.at l.joined
    l.initial.held l.tail l.held

abbrev pub decreases-feed_each-loop-from : goal.decreases-feed_each-loop-from
decreases-feed_each-loop-from l = l.stop - l.from

abbrev pub invariant-feed_outcomes-loop-i : goal.invariant-feed_outcomes-loop-i
invariant-feed_outcomes-loop-i l =
    Unwinding (LeftFrom l.i) l.initial.tail l.end l.query l.at l.joined l.initial.held l.tail l.held
