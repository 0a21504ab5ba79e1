-- The proof of build::behind::append_part, by answers to its goals.
use Rattle.std.proofs.Common.{arith, refl}
use Rattle.spec_trees.specs.Tree.{ε, ◌▹◌}
use Rattle.format.specs.StandLaws.{tree_places, is_alone}
use Rattle.build.specs.BehindLaws.{append_places, append_large, append_deep, append_done}
use Rattle.build.proofs.behind.append_part.Goals as goal

pub field_end-l-requires : goal.field_end-l-requires
field_end-l-requires c =
    omega (arith, tree_places (record { value = c.requires.0.part.tree; value_is = c.requires.0.part.tree_is }) refl)

pub overflow_sub-e : goal.overflow_sub-e
overflow_sub-e c = omega (arith, (append_places c.requires.0 c.requires.1 c.requires.2 c.field_end-l.ensures refl))

pub returns-then-e-built-gt-TREE : goal.returns-then-e-built-gt-TREE
returns-then-e-built-gt-TREE c =
    append_large c.requires.0 c.requires.1 c.requires.2 c.field_end-l.ensures refl (omega (
      arith,
      c.if-e-built-gt-TREE.true,
    ))

pub within_depth-requires : goal.within_depth-requires
within_depth-requires c =
    record {
      value = c.requires.0.whole.tree ▹ ε;
      value_is = is_alone c.requires.0.whole.tree
          c.requires.0.whole.tree_is;
    }

pub returns-then-not-within_depth : goal.returns-then-not-within_depth
returns-then-not-within_depth c =
    append_deep c.requires.0 c.requires.1 c.requires.2 c.field_end-l.ensures refl (omega (
      arith,
      c.if-e-built-gt-TREE.false,
    )) c.within_depth.ensures (c.if-not-within_depth.true)

pub move_down-requires : goal.move_down-requires
move_down-requires c = (
  omega (arith, (append_places c.requires.0 c.requires.1 c.requires.2 c.field_end-l.ensures refl)),
  omega (
    arith,
    (append_places c.requires.0 c.requires.1 c.requires.2 c.field_end-l.ensures refl),
  ),
  omega (
    arith,
    (append_places
        c.requires.0 c.requires.1 c.requires.2 c.field_end-l.ensures refl),
  ),
)

pub put_head-requires : goal.put_head-requires
put_head-requires c = (
  omega (arith, (append_places c.requires.0 c.requires.1 c.requires.2 c.field_end-l.ensures refl)),
  omega (
    arith,
    (append_places c.requires.0 c.requires.1 c.requires.2 c.field_end-l.ensures refl),
    c.move_down.auto.work,
  ),
  omega
      (arith, c.requires.0.small, c.move_down.auto.work),
)

pub returns : goal.returns
returns c =
    append_done c.requires.0 c.requires.1 c.requires.2 c.field_end-l.ensures refl c.move_down.auto.work
    c.move_down.ensures c.put_head.ensures (omega (arith, c.if-e-built-gt-TREE.false)) c.within_depth.ensures
    (c.if-not-within_depth.false)
