-- The proof of classes::fit::source_fits, by answers to its goals: what is right for the classes that are left is
-- right for all.
use Rattle.std.proofs.Common.{arith, refl}
use Rattle.classes.specs.FitLaws.{fit_begin, fit_end, fit_places, fit_ends, fit_walk, fit_less, fit_stop, fit_again}
use Rattle.classes.proofs.fit.source_fits.Goals as goal

pub loop-from-init : goal.loop-from-init
loop-from-init c = fit_begin c.requires.0

pub field_end-m-requires : goal.field_end-m-requires
field_end-m-requires c = omega (arith, (fit_places c.requires.0 c.loop-from.invariant c.loop-from-test.true refl))

pub overflow_add-one : goal.overflow_add-one
overflow_add-one c = omega (arith, (fit_places c.requires.0 c.loop-from.invariant c.loop-from-test.true refl))

pub class_end-end-requires : goal.class_end-end-requires
class_end-end-requires c = fit_ends c.requires.0 c.loop-from.invariant c.loop-from-test.true c.field_end-m.ensures

pub total_over-total-requires : goal.total_over-total-requires
total_over-total-requires c = (
  fit_walk c.requires.0 c.loop-from.invariant c.loop-from-test.true c.field_end-m.ensures c.class_end-end.ensures
      c.requires.1,
  omega (arith, (fit_places c.requires.0 c.loop-from.invariant c.loop-from-test.true refl)),
)

pub returns-then-not-fits_signed : goal.returns-then-not-fits_signed
returns-then-not-fits_signed c =
    fit_stop c.requires.0 c.loop-from.invariant c.loop-from-test.true c.field_end-m.ensures c.class_end-end.ensures
    c.total_over-total.ensures c.fits_signed.ensures (c.if-not-fits_signed.true)

pub loop-from-smaller : goal.loop-from-smaller
loop-from-smaller c =
    omega (
      arith,
      fit_less c.requires.0 c.loop-from.invariant c.loop-from-test.true c.field_end-m.ensures
          c.class_end-end.ensures,
    )

pub loop-from-preserved : goal.loop-from-preserved
loop-from-preserved c =
    fit_again c.requires.0 c.loop-from.invariant c.loop-from-test.true c.field_end-m.ensures c.class_end-end.ensures
    c.total_over-total.ensures c.fits_signed.ensures (c.if-not-fits_signed.false)

pub returns : goal.returns
returns c = fit_end c.requires.0 c.loop-from.invariant c.loop-from-test.false
