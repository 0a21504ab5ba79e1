-- The proof of stream::collector::collect, by answers to its goals.
use Rattle.stream.specs.CollectorLaws as law
use Rattle.stream.proofs.collector.collect.Goals as goal

pub append-requires : goal.append-requires
append-requires c = law.collect_by c.in-Len.is c.requires

pub returns-in-Len : goal.returns-in-Len
returns-in-Len c = law.collected_by c.in-Len.is c.append.ensures

pub returns-in-Over : goal.returns-in-Over
returns-in-Over c = law.collected_by c.in-Over.is (law.collected_over c.args.tail.now c.args.end)

pub returns-in-Large : goal.returns-in-Large
returns-in-Large c = law.collected_by c.in-Large.is (law.collected_large c.args.tail.now c.args.tail.now c.args.end _)
