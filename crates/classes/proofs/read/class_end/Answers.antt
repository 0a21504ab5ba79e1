-- The proof of classes::read::class_end, by answers to its goals: what is right for the trees that are left
-- is right for all.
use Rattle.std.proofs.Common.{refl, sym, ◌∙◌, arith}
use Rattle.classes.specs.ReadLaws as law
use Rattle.classes.proofs.read.class_end.Goals as goal

pub loop-to-init : goal.loop-to-init
loop-to-init c = (c.requires, λ r h. h)

pub overflow_mul-count : goal.overflow_mul-count
overflow_mul-count c =
    omega (arith, (law.read_places refl _ c.loop-to-test.true c.loop-to.invariant.0.unread), c.requires.small)

pub overflow_add-count : goal.overflow_add-count
overflow_add-count c =
    omega (arith, (law.read_places refl _ c.loop-to-test.true c.loop-to.invariant.0.unread), c.requires.small)

pub two_at-requires : goal.two_at-requires
two_at-requires c = omega (arith, (law.read_places refl _ c.loop-to-test.true c.loop-to.invariant.0.unread))

pub returns-then-two_at-ne0 : goal.returns-then-two_at-ne0
returns-then-two_at-ne0 c = c.loop-to.invariant.1 _ (law.end_next (λ z. c.if-two_at-ne0.true (c.two_at.ensures.0 ∙ z)))

pub field_end-to-requires : goal.field_end-to-requires
field_end-to-requires c = omega (arith, (law.read_places refl _ c.loop-to-test.true c.loop-to.invariant.0.unread))

pub overflow_add-count-in-loop-to : goal.overflow_add-count-in-loop-to
overflow_add-count-in-loop-to c =
    omega (arith, (law.read_places refl _ c.loop-to-test.true c.loop-to.invariant.0.unread), c.requires.small)

pub loop-to-smaller : goal.loop-to-smaller
loop-to-smaller c =
    omega (arith, (law.read_places c.field_end-to.ensures _ c.loop-to-test.true c.loop-to.invariant.0.unread))

pub loop-to-preserved : goal.loop-to-preserved
loop-to-preserved c =
    let z = sym c.two_at.ensures.0 ∙ c.if-two_at-ne0.false in (
      law.end_again c.loop-to-test.true z c.field_end-to.ensures c.loop-to.invariant.0,
      λ r h. c.loop-to.invariant.1 r
          (law.end_on c.loop-to-test.true z c.field_end-to.ensures r h),
    )

pub returns : goal.returns
returns c = c.loop-to.invariant.1 _ (law.end_last c.loop-to-test.false)
