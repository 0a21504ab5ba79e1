-- The proof of totals::exact::fits_signed, by answers to its goals.
use Rattle.std.proofs.Common.{arith}
use Rattle.totals.specs.ExactLaws.{fits_middle, fits_below}
use Rattle.totals.proofs.exact.fits_signed.Goals as goal

pub returns-then-total-eq-MIDDLE : goal.returns-then-total-eq-MIDDLE
returns-then-total-eq-MIDDLE c = fits_middle c.if-total-eq-MIDDLE.true

pub returns : goal.returns
returns c = fits_below (omega arith) c.if-total-eq-MIDDLE.false
