-- The proof of first_stretch::first::feed_tree, by answers to its goals.
use Rattle.std.proofs.Common.{arith}
use Rattle.first_stretch.specs.FirstLaws.{tree_small, tree_feed, tree_fed}
use Rattle.first_stretch.proofs.first.feed_tree.Goals as goal

pub copy_in-requires : goal.copy_in-requires
copy_in-requires c = (omega arith, omega (arith, tree_small c.requires))

pub feed-requires : goal.feed-requires
feed-requires c = tree_feed c.requires c.copy_in.auto.work c.copy_in.ensures

pub returns : goal.returns
returns c = tree_fed c.requires c.copy_in.auto.work c.copy_in.ensures c.feed.ensures
