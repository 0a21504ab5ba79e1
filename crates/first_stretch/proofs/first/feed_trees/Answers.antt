-- The proof of first_stretch::first::feed_trees, by answers to its goals: what is right for the trees that are left is right
-- for all.
use Rattle.std.proofs.Common.{refl, sym, ◌∙◌, arith}
use Rattle.first_stretch.specs.FirstLaws.{first_begin, first_lent, first_back, first_end, first_places, first_tree, first_since, first_stop, first_again}
use Rattle.first_stretch.proofs.first.feed_trees.Goals as goal

pub loop-at-init : goal.loop-at-init
loop-at-init c = first_begin c.requires

pub field_end-m-requires : goal.field_end-m-requires
field_end-m-requires c =
    let n = first_places c.requires c.loop-at.invariant c.loop-at-test.true refl in
    omega (arith, n)

pub slice_bounds-tree-end : goal.slice_bounds-tree-end
slice_bounds-tree-end c =
    omega (arith, (first_places c.requires c.loop-at.invariant c.loop-at-test.true c.field_end-m.ensures))

pub slice_bounds-feed_tree-end-in-loop-at : goal.slice_bounds-feed_tree-end-in-loop-at
slice_bounds-feed_tree-end-in-loop-at c = sym (first_lent c.requires c.loop-at.invariant)

pub feed_tree-next-requires : goal.feed_tree-next-requires
feed_tree-next-requires c = first_tree c.requires c.loop-at.invariant c.loop-at-test.true c.field_end-m.ensures

pub shape_of-work-then-is_large : goal.shape_of-work-then-is_large
shape_of-work-then-is_large c =
    first_back c.requires c.loop-at.invariant c.loop-at-test.true c.field_end-m.ensures c.feed_tree-next.auto.area
    c.feed_tree-next.ensures

pub returns-then-is_large : goal.returns-then-is_large
returns-then-is_large c =
    first_stop c.requires c.loop-at.invariant c.loop-at-test.true c.field_end-m.ensures c.feed_tree-next.auto.area
    c.feed_tree-next.ensures _ (sym c.is_large.ensures ∙ c.if-is_large.true)

pub mark_since-requires : goal.mark_since-requires
mark_since-requires c = (
  first_since c.requires c.loop-at.invariant c.loop-at-test.true c.field_end-m.ensures c.feed_tree-next.auto.area
      c.feed_tree-next.ensures,
  omega (
    arith,
    (first_places c.requires c.loop-at.invariant c.loop-at-test.true
        c.field_end-m.ensures),
  ),
)

pub overflow_add-position : goal.overflow_add-position
overflow_add-position c =
    omega (arith, (first_places c.requires c.loop-at.invariant c.loop-at-test.true c.field_end-m.ensures))

pub loop-at-smaller : goal.loop-at-smaller
loop-at-smaller c =
    omega (arith, (first_places c.requires c.loop-at.invariant c.loop-at-test.true c.field_end-m.ensures))

pub loop-at-preserved : goal.loop-at-preserved
loop-at-preserved c =
    first_again c.requires c.loop-at.invariant c.loop-at-test.true c.field_end-m.ensures c.feed_tree-next.auto.area
    c.feed_tree-next.ensures c.mark_since.auto.work c.mark_since.ensures (sym c.is_large.ensures ∙ c.if-is_large.false)

pub shape_of-work : goal.shape_of-work
shape_of-work c = c.loop-at.invariant.same

pub returns : goal.returns
returns c = first_end c.requires c.loop-at.invariant c.loop-at-test.false
