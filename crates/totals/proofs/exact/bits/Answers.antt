-- The proof of totals::exact::bits, by answers to its goals.
use Rattle.std.proofs.Common.{arith}
use Rattle.totals.specs.ExactLaws.{bits_middle, bits_below}
use Rattle.totals.proofs.exact.bits.Goals as goal

pub returns-then-total-eq-MIDDLE : goal.returns-then-total-eq-MIDDLE
returns-then-total-eq-MIDDLE c = bits_middle c.if-total-eq-MIDDLE.true

pub returns : goal.returns
returns c = bits_below (omega arith) c.if-total-eq-MIDDLE.false
