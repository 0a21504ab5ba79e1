-- The proof of positions::bear::bear, by answers to its goals: what is right for the trees that are left is right for
-- all.
use Rattle.std.proofs.Common.{arith, refl, subst, ◌+◌}
use Rattle.areas.specs.Area.{Wrote}
use Rattle.areas.specs.Number.{two_bytes}
use Rattle.positions.specs.BearingLaws as law
use Rattle.positions.proofs.bear.bear.Goals as goal
use Rattle.std.specs.Prelude.{Ok}

pub loop-at-init : goal.loop-at-init
loop-at-init c = law.bear_begin c.requires.0

pub overflow_add-at : goal.overflow_add-at
overflow_add-at c = omega (arith, law.standing_places c.loop-at.invariant.left c.loop-at-test.true refl)

pub field_end-m-requires : goal.field_end-m-requires
field_end-m-requires c = omega (arith, law.standing_places c.loop-at.invariant.left c.loop-at-test.true refl)

pub overflow_sub-m : goal.overflow_sub-m
overflow_sub-m c =
    omega (arith, (law.standing_places c.loop-at.invariant.left c.loop-at-test.true c.field_end-m.ensures))

pub place-requires : goal.place-requires
place-requires c =
    omega (arith, (law.standing_places c.loop-at.invariant.left c.loop-at-test.true c.field_end-m.ensures))

pub put_two-requires : goal.put_two-requires
put_two-requires c = (
  omega (arith, (law.standing_places c.loop-at.invariant.left c.loop-at-test.true c.field_end-m.ensures)),
  omega (
    arith,
    (law.standing_places c.loop-at.invariant.left c.loop-at-test.true c.field_end-m.ensures),
    c.loop-at.invariant.low,
    c.requires.1,
  ),
)

pub overflow_add-position : goal.overflow_add-position
overflow_add-position c =
    omega (
      arith,
      (law.standing_places c.loop-at.invariant.left c.loop-at-test.true c.field_end-m.ensures),
      c.loop-at.invariant.low,
      c.requires.1,
      c.requires.2,
    )

pub loop-at-smaller : goal.loop-at-smaller
loop-at-smaller c =
    omega (arith, (law.standing_places c.loop-at.invariant.left c.loop-at-test.true c.field_end-m.ensures))

pub loop-at-preserved : goal.loop-at-preserved
loop-at-preserved c =
    law.bear_again c.loop-at.invariant c.loop-at-test.true c.field_end-m.ensures c.put_two.auto.work (subst (λ i. Wrote
    c.loop-at.work c.put_two.new.work i (i + 2) (two_bytes c.loop-at.position) (Ok (i + 2))) c.place.ensures
    c.put_two.ensures) c.requires.2

pub shape_of-work : goal.shape_of-work
shape_of-work c = c.loop-at.invariant.same

pub returns : goal.returns
returns c = law.bear_end c.loop-at.invariant c.loop-at-test.false
