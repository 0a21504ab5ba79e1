-- The proof of arrange::arrange::arrange_class, by answers to its goals: some trees are copied, and the links lead through
-- those that are left.
use Rattle.std.proofs.Common.{arith, refl, ◌∙◌}
use Rattle.arrange.specs.ClassLaws as law
use Rattle.arrange.proofs.arrange.arrange_class.Goals as goal

pub overflow_sub-first : goal.overflow_sub-first
overflow_sub-first c = omega (arith, law.first_places c.requires)

pub position_at-number-requires : goal.position_at-number-requires
position_at-number-requires c = ((law.first_places c.requires).2, omega (arith, law.first_places c.requires))

pub loop-at-init : goal.loop-at-init
loop-at-init c = (refl, λ l. law.copying_begin l c.position_at-number.ensures.0 c.position_at-number.ensures.1)

pub field_end-m-requires : goal.field_end-m-requires
field_end-m-requires c =
    omega (arith, law.copying_places c.requires (c.loop-at.invariant.1 c.requires) c.loop-at-test.true)

pub place-so_far-requires : goal.place-so_far-requires
place-so_far-requires c =
    rw c.field_end-m.ensures (
      law.copying_room c.requires (c.loop-at.invariant.1 c.requires) c.loop-at-test.true,
      law.copying_tree c.requires (c.loop-at.invariant.1 c.requires) c.loop-at-test.true,
      (law.copying_places c.requires
          (c.loop-at.invariant.1 c.requires) c.loop-at-test.true).0,
      omega (arith, (c.loop-at.invariant.1 c.requires).small),
    )

pub overflow_sub-at : goal.overflow_sub-at
overflow_sub-at c = omega (arith, law.copying_places c.requires (c.loop-at.invariant.1 c.requires) c.loop-at-test.true)

pub two_at-at-requires : goal.two_at-at-requires
two_at-at-requires c =
    omega (
      arith,
      law.copying_places c.requires (c.loop-at.invariant.1 c.requires) c.loop-at-test.true,
      c.place-so_far.auto.work,
    )

pub loop-at-smaller : goal.loop-at-smaller
loop-at-smaller c =
    omega (
      arith,
      law.copying_places c.requires (c.loop-at.invariant.1 c.requires) c.loop-at-test.true,
      c.field_end-m.ensures,
      law.grown c.requires (c.loop-at.invariant.1 c.requires) c.loop-at-test.true
          c.field_end-m.ensures c.place-so_far.ensures,
    )

pub loop-at-preserved : goal.loop-at-preserved
loop-at-preserved c = (
  c.place-so_far.auto.work ∙ c.loop-at.invariant.0,
  λ l. law.copying_next l (c.loop-at.invariant.1 l)
      c.loop-at-test.true c.field_end-m.ensures c.place-so_far.ensures c.two_at-at.ensures.0,
)

pub shape_of-work : goal.shape_of-work
shape_of-work c = c.loop-at.invariant.0

pub returns : goal.returns
returns c = λ l. law.copying_end l (c.loop-at.invariant.1 l) c.loop-at-test.false
