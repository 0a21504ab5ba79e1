-- The proof of unwind::unwind::put_element, by answers to its goals.
use Rattle.std.proofs.Common.{arith}
use Rattle.unwind.specs.OutcomeLaws.{element_places, element_around, element_put}
use Rattle.unwind.proofs.unwind.put_element.Goals as goal

pub overflow_sub-at : goal.overflow_sub-at
overflow_sub-at c = omega (arith, (element_places c.requires))

pub overflow_add-at : goal.overflow_add-at
overflow_add-at c = omega (arith, (element_places c.requires), c.requires.room, c.requires.inside)

pub copy-one-requires : goal.copy-one-requires
copy-one-requires c =
    omega (
      arith,
      (element_places c.requires),
      c.requires.room,
      c.requires.inside,
      c.requires.below,
      c.requires.element.value_is.ends,
    )

pub surround-requires : goal.surround-requires
surround-requires c = element_around c.requires c.copy-one.ensures c.copy-one.auto.work

pub returns : goal.returns
returns c = element_put c.requires c.copy-one.ensures c.surround.ensures
