-- The proof of the cycle of format::depth, by answers to its goals: a tree takes one level from what is left, and
-- what is right from i on is right for all.
use Rattle.std.proofs.Common.{arith, refl}
use Rattle.format.specs.StandLaws.{labels_places, trees_places, tree_places, holds_array, holds_others, holds_first, holds_rest, holds_labels}
use Rattle.format.specs.DepthLaws.{trees_end, trees_short, no_level, trees_deep, trees_next, labels_end, labels_deep, labels_next}
use Rattle.format.proofs.depth.+nesting.Goals as goal

pub labels_within-loop-at-init : goal.labels_within-loop-at-init
labels_within-loop-at-init t c = (c.requires, λ r h. h)

pub labels_within-field_end-m-requires : goal.labels_within-field_end-m-requires
labels_within-field_end-m-requires t c = omega (arith, labels_places c.loop-at.invariant.0 c.loop-at-test.true refl)

pub labels_within-trees_at-requires : goal.labels_within-trees_at-requires
labels_within-trees_at-requires t c =
    omega (arith, labels_places c.loop-at.invariant.0 c.loop-at-test.true c.field_end-m.ensures)

pub labels_within-trees_within-requires : goal.labels_within-trees_within-requires
labels_within-trees_within-requires t c = (
  omega (arith, c.decreases),
  holds_array c.loop-at.invariant.0 c.loop-at-test.true c.field_end-m.ensures
      c.trees_at.ensures,
)

pub labels_within-returns-then-not-trees_within : goal.labels_within-returns-then-not-trees_within
labels_within-returns-then-not-trees_within t c =
    c.loop-at.invariant.1 _ (labels_deep c.args.area.now c.args.left c.loop-at.at c.args.labels.to c.field_end-m.result
    c.loop-at-test.true c.field_end-m.ensures c.trees_at.result c.trees_at.ensures c.trees_within.result
    c.trees_within.ensures (c.if-not-trees_within.true))

pub labels_within-loop-at-smaller : goal.labels_within-loop-at-smaller
labels_within-loop-at-smaller t c =
    omega (arith, labels_places c.loop-at.invariant.0 c.loop-at-test.true c.field_end-m.ensures)

pub labels_within-loop-at-preserved : goal.labels_within-loop-at-preserved
labels_within-loop-at-preserved t c = (
  holds_others c.loop-at.invariant.0 c.loop-at-test.true c.field_end-m.ensures,
  λ r h. c.loop-at.invariant.1 r
      (labels_next c.args.area.now c.args.left c.loop-at.at c.args.labels.to c.field_end-m.result c.loop-at-test.true
      c.field_end-m.ensures c.trees_at.result c.trees_at.ensures c.trees_within.result c.trees_within.ensures
      (c.if-not-trees_within.false) r h),
)

pub labels_within-returns : goal.labels_within-returns
labels_within-returns t c =
    c.loop-at.invariant.1 _ (labels_end c.args.area.now c.args.left c.loop-at.at c.args.labels.to c.loop-at-test.false)

pub trees_within-returns-then-left-eq0 : goal.trees_within-returns-then-left-eq0
trees_within-returns-then-left-eq0 t c =
    no_level c.args.area.now c.args.left c.args.trees.from c.args.trees.to c.if-left-eq0.true

pub trees_within-overflow_sub-end : goal.trees_within-overflow_sub-end
trees_within-overflow_sub-end t c = omega (arith, c.requires.value_is.ends, c.requires.value_is.inside)

pub trees_within-overflow_add-end : goal.trees_within-overflow_add-end
trees_within-overflow_add-end t c = omega (arith, c.requires.value_is.ends, c.requires.value_is.inside)

pub trees_within-returns-then-end-at : goal.trees_within-returns-then-end-at
trees_within-returns-then-end-at t c =
    trees_short c.args.area.now c.args.left c.args.trees.from c.args.trees.to (omega (arith, c.if-end-at.true))

pub trees_within-loop-at-init : goal.trees_within-loop-at-init
trees_within-loop-at-init t c = (c.requires, λ r h. h)

pub trees_within-field_end-m-requires : goal.trees_within-field_end-m-requires
trees_within-field_end-m-requires t c = omega (arith, trees_places c.loop-at.invariant.0 c.loop-at-test.true refl)

pub trees_within-overflow_add-at : goal.trees_within-overflow_add-at
trees_within-overflow_add-at t c =
    omega (arith, trees_places c.loop-at.invariant.0 c.loop-at-test.true c.field_end-m.ensures)

pub trees_within-field_end-l-requires : goal.trees_within-field_end-l-requires
trees_within-field_end-l-requires t c =
    omega (arith, tree_places (holds_first c.loop-at.invariant.0 c.loop-at-test.true c.field_end-m.ensures) refl)

pub trees_within-labels_within-requires : goal.trees_within-labels_within-requires
trees_within-labels_within-requires t c = (
  omega (arith, c.decreases),
  holds_labels (holds_first c.loop-at.invariant.0 c.loop-at-test.true
      c.field_end-m.ensures) c.field_end-l.ensures,
)

pub trees_within-returns-then-not-labels_within : goal.trees_within-returns-then-not-labels_within
trees_within-returns-then-not-labels_within t c =
    c.loop-at.invariant.1 _ (trees_deep c.args.area.now c.args.left c.loop-at.at c.args.trees.to c.field_end-m.result
    c.loop-at-test.true c.field_end-m.ensures c.field_end-l.result c.field_end-l.ensures c.if-left-eq0.false
    c.labels_within.result c.labels_within.ensures (c.if-not-labels_within.true))

pub trees_within-loop-at-smaller : goal.trees_within-loop-at-smaller
trees_within-loop-at-smaller t c =
    omega (arith, trees_places c.loop-at.invariant.0 c.loop-at-test.true c.field_end-m.ensures)

pub trees_within-loop-at-preserved : goal.trees_within-loop-at-preserved
trees_within-loop-at-preserved t c = (
  holds_rest c.loop-at.invariant.0 c.loop-at-test.true c.field_end-m.ensures,
  λ r h. c.loop-at.invariant.1 r
      (trees_next c.args.area.now c.args.left c.loop-at.at c.args.trees.to c.field_end-m.result c.loop-at-test.true
      c.field_end-m.ensures c.field_end-l.result c.field_end-l.ensures c.if-left-eq0.false c.labels_within.result
      c.labels_within.ensures (c.if-not-labels_within.false) r h),
)

pub trees_within-returns : goal.trees_within-returns
trees_within-returns t c =
    c.loop-at.invariant.1 _ (trees_end c.args.area.now c.args.left c.loop-at.at c.args.trees.to c.loop-at-test.false)
