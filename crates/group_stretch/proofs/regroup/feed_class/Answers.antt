-- The proof of group_stretch::regroup::feed_class, by answers to its goals.
use Rattle.std.proofs.Common.{arith}
use Rattle.group_stretch.specs.GroupLaws as law
use Rattle.group_stretch.proofs.regroup.feed_class.Goals as goal

pub class_tree-requires : goal.class_tree-requires
class_tree-requires c = law.class_built c.requires

pub returns-in_default : goal.returns-in_default
returns-in_default c = law.class_large c.requires c.class_tree.auto.work c.class_tree.ensures c.in_default.is

pub overflow_sub-o : goal.overflow_sub-o
overflow_sub-o c =
    omega (arith, law.class_places c.requires c.class_tree.auto.work c.class_tree.ensures c.in-Ok.is)

pub feed-requires : goal.feed-requires
feed-requires c = law.class_feed c.requires c.class_tree.auto.work c.class_tree.ensures c.in-Ok.is

pub returns : goal.returns
returns c =
    law.class_fed c.requires c.class_tree.auto.work c.class_tree.ensures c.in-Ok.is c.feed.auto.tail
    c.feed.ensures
