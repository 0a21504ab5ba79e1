-- The proof of bare::root::put_root, by answers to its goals.
use Rattle.std.proofs.Common.{arith, ◌∙◌}
use Rattle.bare.specs.BareLaws.{root_large, root_finishable, tree_finishable, tree_headed}
use Rattle.bare.proofs.root.put_root.Goals as goal

pub returns-then-to-at-lt-HEADS : goal.returns-then-to-at-lt-HEADS
returns-then-to-at-lt-HEADS c =
    root_large c.args.work.now c.args.room.from c.args.room.to c.args.tag c.args.content.now (omega arith)
    c.if-to-at-lt-HEADS.true

pub finish-root-requires : goal.finish-root-requires
finish-root-requires c = (
  root_finishable c.args.room.from c.args.room.to c.args.tag c.args.content.now c.requires.1
      c.copy_in-written.auto.work c.copy_in-written.ensures,
  omega (arith, c.copy_in-written.auto.work),
)

pub finish-requires : goal.finish-requires
finish-requires c = (
  tree_finishable c.args.room.from c.args.room.to c.args.tag c.args.content.now c.requires.1
      c.copy_in-written.auto.work c.copy_in-written.ensures (omega arith) (c.finish-root.auto.work ∙
      c.copy_in-written.auto.work) c.finish-root.ensures,
  omega (
    arith,
    c.copy_in-written.auto.work,
    c.finish-root.auto.work,
  ),
)

pub returns : goal.returns
returns c =
    tree_headed c.args.room.from c.args.room.to c.args.tag c.args.content.now c.requires.1 c.copy_in-written.auto.work
    c.copy_in-written.ensures (omega arith) c.finish-root.ensures c.finish.ensures
