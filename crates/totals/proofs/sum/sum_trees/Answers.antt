-- The proof of totals::sum::sum_trees, by answers to its goals: what is right for the trees from `at` on, with the total so
-- far, is right for all.
use Rattle.std.proofs.Common.{arith, refl}
use Rattle.format.specs.StandLaws.{trees_places, holds_first, holds_rest}
use Rattle.totals.specs.SumLaws.{summed_same, summed_seq, summed_end, ready_next, ready_first, trees_end, trees_next}
use Rattle.totals.proofs.sum.sum_trees.Goals as goal

pub loop-at-init : goal.loop-at-init
loop-at-init c =
    (c.requires.0, summed_same c.args.trees.from c.args.trees.from c.requires.1.sound (omega arith), λ k f. f)

pub field_end-m-requires : goal.field_end-m-requires
field_end-m-requires c = omega (arith, trees_places c.loop-at.invariant.0 c.loop-at-test.true refl)

pub sum_tree-sum-requires : goal.sum_tree-sum-requires
sum_tree-sum-requires c = (
  holds_first c.loop-at.invariant.0 c.loop-at-test.true c.field_end-m.ensures,
  ready_first (trees_places
      c.loop-at.invariant.0 c.loop-at-test.true c.field_end-m.ensures).1 (ready_next c.requires.1 c.loop-at.invariant.1),
)

pub loop-at-smaller : goal.loop-at-smaller
loop-at-smaller c = omega (arith, (trees_places c.loop-at.invariant.0 c.loop-at-test.true c.field_end-m.ensures))

pub loop-at-preserved : goal.loop-at-preserved
loop-at-preserved c = (
  holds_rest c.loop-at.invariant.0 c.loop-at-test.true c.field_end-m.ensures,
  summed_seq c.loop-at.invariant.1
      c.sum_tree-sum.ensures.0,
  λ k f. c.loop-at.invariant.2 k (trees_next c.args.area.now c.loop-at.at c.args.trees.to
      c.loop-at.sum c.loop-at-test.true c.field_end-m.ensures c.sum_tree-sum.ensures.1 k f),
)

pub returns : goal.returns
returns c = (
  summed_end c.loop-at-test.false c.loop-at.invariant.1,
  c.loop-at.invariant.2 c.loop-at.sum (trees_end
      c.args.area.now c.loop-at.at c.args.trees.to c.loop-at.sum c.loop-at-test.false),
)
