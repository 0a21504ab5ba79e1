-- The proof of format::depth::within_depth, by answers to its goals.
use Rattle.std.proofs.Common.{arith}
use Rattle.format.specs.DepthLaws.{trees_short}
use Rattle.format.proofs.depth.within_depth.Goals as goal

pub overflow_sub-trees : goal.overflow_sub-trees
overflow_sub-trees c = omega (arith, c.requires.value_is.ends, c.requires.value_is.inside)

pub overflow_add-trees : goal.overflow_add-trees
overflow_add-trees c = omega (arith, c.requires.value_is.ends, c.requires.value_is.inside)

pub returns-then-trees-left : goal.returns-then-trees-left
returns-then-trees-left c =
    trees_short c.args.area.now c.args.left c.args.trees.from c.args.trees.to (omega (arith, c.if-trees-left.true))
