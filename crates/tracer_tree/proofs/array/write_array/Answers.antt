-- The proof of tracer_tree::array::write_array, by answers to its goals.
use Rattle.std.proofs.Common.{arith, ◌∙◌}
use Rattle.tracer_tree.specs.ArrayLaws.{array_large, tree_finishable, array_finishable, array_wrote}
use Rattle.tracer_tree.proofs.array.write_array.Goals as goal

pub returns-then-to-lt-HEADS : goal.returns-then-to-lt-HEADS
returns-then-to-lt-HEADS c = array_large c.args.message.now c.args.places.now c.args.out.now c.if-to-lt-HEADS.true

pub finish-tree-requires : goal.finish-tree-requires
finish-tree-requires c = (
  tree_finishable c.args.message.now c.args.places.now c.args.out.now c.if-to-lt-HEADS.false c.put_head.auto.work
      c.put_head.ensures c.write_labels-written.ensures c.requires (c.write_labels-written.auto.out ∙
      c.put_head.auto.work),
  omega (arith, c.requires.lent, (c.write_labels-written.auto.out ∙ c.put_head.auto.work)),
)

pub finish-requires : goal.finish-requires
finish-requires c = (
  array_finishable c.args.message.now c.args.places.now c.args.out.now c.if-to-lt-HEADS.false c.put_head.auto.work
      c.put_head.ensures c.write_labels-written.ensures c.finish-tree.ensures c.requires (c.finish-tree.auto.work ∙
      (c.write_labels-written.auto.out ∙ c.put_head.auto.work)),
  omega (
    arith,
    c.requires.lent,
    (c.finish-tree.auto.work ∙
        (c.write_labels-written.auto.out ∙ c.put_head.auto.work)),
  ),
)

pub returns : goal.returns
returns c =
    array_wrote c.args.message.now c.args.places.now c.args.out.now c.if-to-lt-HEADS.false c.put_head.auto.work
    c.put_head.ensures c.write_labels-written.ensures c.finish-tree.ensures c.finish.ensures
