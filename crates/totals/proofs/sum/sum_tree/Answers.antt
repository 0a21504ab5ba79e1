-- The proof of totals::sum::sum_tree, by answers to its goals.
use Rattle.std.proofs.Common.{arith}
use Rattle.totals.specs.SumLaws.{summed_same, summed_one, tree_room, integer_room, tree_integer, tree_other}
use Rattle.totals.proofs.sum.sum_tree.Goals as goal

pub bounds-area-at : goal.bounds-area-at
bounds-area-at c = omega (arith, (tree_room c.args.area.now c.args.tree.from c.args.tree.to c.requires.0))

pub returns-then-area-at-ne-TAG : goal.returns-then-area-at-ne-TAG
returns-then-area-at-ne-TAG c = (
  summed_same c.args.tree.from c.args.tree.to c.requires.1.sound (omega (
    arith,
    (tree_room c.args.area.now
        c.args.tree.from c.args.tree.to c.requires.0),
  )),
  tree_other c.args.area.now c.args.tree.from c.args.tree.to
      c.args.total c.if-area-at-ne-TAG.true,
)

pub word_at-requires : goal.word_at-requires
word_at-requires c =
    omega (
      arith,
      (tree_room c.args.area.now c.args.tree.from c.args.tree.to c.requires.0),
      (integer_room
          c.args.area.now c.args.tree.from c.args.tree.to c.requires.0 c.if-area-at-ne-TAG.false),
    )

pub add-requires : goal.add-requires
add-requires c = (
  c.requires.1.sound,
  omega (
    arith,
    c.requires.1.room,
    (integer_room c.args.area.now c.args.tree.from c.args.tree.to
        c.requires.0 c.if-area-at-ne-TAG.false),
  ),
)

pub returns : goal.returns
returns c = (
  summed_one c.args.tree.from c.args.tree.to c.requires.1.sound (omega (
    arith,
    (integer_room c.args.area.now
        c.args.tree.from c.args.tree.to c.requires.0 c.if-area-at-ne-TAG.false),
  )) c.add.ensures.0 c.add.ensures.1,
  tree_integer c.args.area.now c.args.tree.from c.args.tree.to c.if-area-at-ne-TAG.false c.word_at.ensures
      c.add.ensures.1,
)
