-- The proof of paths::hash::hash_trees, by answers to its goals: what is right for the trees from `at` on is right for
-- all.
use Rattle.std.proofs.Common.{arith, refl}
use Rattle.format.specs.StandLaws.{trees_places, holds_first, holds_rest}
use Rattle.paths.specs.HashLaws.{trees_end, trees_next}
use Rattle.paths.proofs.hash.hash_trees.Goals as goal

pub loop-at-init : goal.loop-at-init
loop-at-init c = (c.requires.0, c.requires.1, λ k f. f)

pub field_end-m-requires : goal.field_end-m-requires
field_end-m-requires c = omega (arith, trees_places c.loop-at.invariant.0 c.loop-at-test.true refl)

pub hash_tree-h-requires : goal.hash_tree-h-requires
hash_tree-h-requires c =
    (holds_first c.loop-at.invariant.0 c.loop-at-test.true c.field_end-m.ensures, c.loop-at.invariant.1)

pub loop-at-smaller : goal.loop-at-smaller
loop-at-smaller c = omega (arith, trees_places c.loop-at.invariant.0 c.loop-at-test.true c.field_end-m.ensures)

pub loop-at-preserved : goal.loop-at-preserved
loop-at-preserved c = (
  holds_rest c.loop-at.invariant.0 c.loop-at-test.true c.field_end-m.ensures,
  c.hash_tree-h.ensures.0,
  λ k f.
      c.loop-at.invariant.2 k (trees_next c.args.area.now c.loop-at.at c.args.trees.to c.loop-at.h c.loop-at-test.true
      c.field_end-m.ensures c.hash_tree-h.ensures.1 k f),
)

pub returns : goal.returns
returns c = (
  c.loop-at.invariant.1,
  c.loop-at.invariant.2 c.loop-at.h (trees_end c.args.area.now c.loop-at.at c.args.trees.to
      c.loop-at.h c.loop-at-test.false),
)
