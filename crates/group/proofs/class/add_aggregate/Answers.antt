-- The proof of group::class::add_aggregate, by answers to its goals.
use Rattle.queries.specs.PartLaws.{holds_of}
use Rattle.group.specs.PairLaws.{plain_ready, total_ready, plain_added, total_added}
use Rattle.group.proofs.class.add_aggregate.Goals as goal

pub is_total-requires : goal.is_total-requires
is_total-requires c = holds_of c.requires.asked

pub add_total-requires : goal.add_total-requires
add_total-requires c = total_ready c.is_total.ensures c.if-is_total.true c.requires

pub returns-then-is_total : goal.returns-then-is_total
returns-then-is_total c = total_added c.is_total.ensures c.if-is_total.true c.add_total.ensures

pub add_joined-requires : goal.add_joined-requires
add_joined-requires c = plain_ready c.is_total.ensures c.requires

pub returns : goal.returns
returns c = plain_added c.is_total.ensures c.if-is_total.false c.add_joined.ensures
