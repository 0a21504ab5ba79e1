-- The proof of arrange::arrange::arrange_subset, by answers to its goals: some trees were asked, and some are left.
use Rattle.std.proofs.Common.{arith, refl, sym, ◌∙◌}
use Rattle.arrange.specs.SubsetLaws as law
use Rattle.arrange.proofs.arrange.arrange_subset.Goals as goal

pub two_at-left-requires : goal.two_at-left-requires
two_at-left-requires c = omega (arith, c.requires.room.size, c.requires.below)

pub loop-left-init : goal.loop-left-init
loop-left-init c = (refl, λ s. law.scanning_begin s c.two_at-left.ensures.0)

pub field_end-m-requires : goal.field_end-m-requires
field_end-m-requires c =
    omega (arith, law.scanning_places c.requires (c.loop-left.invariant.1 c.requires) c.loop-left-test.true refl)

pub overflow_sub-at : goal.overflow_sub-at
overflow_sub-at c =
    omega (
      arith,
      law.scanning_places c.requires (c.loop-left.invariant.1 c.requires) c.loop-left-test.true
          c.field_end-m.ensures,
    )

pub two_at-requires : goal.two_at-requires
two_at-requires c =
    omega (
      arith,
      law.scanning_places c.requires (c.loop-left.invariant.1 c.requires) c.loop-left-test.true
          c.field_end-m.ensures,
    )

pub arrange_class-so_far-requires : goal.arrange_class-so_far-requires
arrange_class-so_far-requires c =
    law.scanning_class c.requires (c.loop-left.invariant.1 c.requires) c.loop-left-test.true c.field_end-m.ensures (sym
    c.two_at.ensures.0 ∙ c.if-two_at-subset.true)

pub loop-left-smaller-then-two_at-subset : goal.loop-left-smaller-then-two_at-subset
loop-left-smaller-then-two_at-subset c =
    omega (
      arith,
      law.scanning_places c.requires (c.loop-left.invariant.1 c.requires) c.loop-left-test.true
          c.field_end-m.ensures,
    )

pub loop-left-preserved-then-two_at-subset : goal.loop-left-preserved-then-two_at-subset
loop-left-preserved-then-two_at-subset c = (
  c.arrange_class-so_far.auto.work ∙ c.loop-left.invariant.0,
  λ s. law.scanning_next s (c.loop-left.invariant.1 s)
      c.loop-left-test.true c.field_end-m.ensures (sym c.two_at.ensures.0 ∙ c.if-two_at-subset.true)
      c.arrange_class-so_far.ensures,
)

pub loop-left-smaller : goal.loop-left-smaller
loop-left-smaller c =
    omega (
      arith,
      law.scanning_places c.requires (c.loop-left.invariant.1 c.requires) c.loop-left-test.true
          c.field_end-m.ensures,
    )

pub loop-left-preserved : goal.loop-left-preserved
loop-left-preserved c = (
  c.loop-left.invariant.0,
  λ s. law.scanning_passed s (c.loop-left.invariant.1 s) c.loop-left-test.true
      c.field_end-m.ensures (λ z. c.if-two_at-subset.false (c.two_at.ensures.0 ∙ z)),
)

pub shape_of-work : goal.shape_of-work
shape_of-work c = c.loop-left.invariant.0

pub returns : goal.returns
returns c = λ s. law.scanning_end s (c.loop-left.invariant.1 s) c.loop-left-test.false
