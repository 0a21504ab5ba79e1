-- The proof of stream::collector::is_large, by answers to its goals.
use Rattle.std.proofs.Common.{rules}
use Rattle.stream.specs.Collector.{is_large}
use Rattle.stream.proofs.collector.is_large.Goals as goal

pub returns-in-Len : goal.returns-in-Len
unfolding is_large
returns-in-Len c = search rules

pub returns-in-Over : goal.returns-in-Over
unfolding is_large
returns-in-Over c = search rules

pub returns-in-Large : goal.returns-in-Large
unfolding is_large
returns-in-Large c = search rules
