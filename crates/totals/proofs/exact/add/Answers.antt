-- The proof of totals::exact::add, by answers to its goals.
use Rattle.std.proofs.Common.{arith, refl}
use Rattle.totals.specs.ExactLaws.{adds_more}
use Rattle.totals.proofs.exact.add.Goals as goal

pub returns : goal.returns
returns c = (refl, adds_more (omega arith) refl refl (omega (arith, c.requires.0.sum_is)) refl)
