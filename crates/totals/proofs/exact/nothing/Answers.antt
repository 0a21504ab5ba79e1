-- The proof of totals::exact::nothing, by answers to its goals.
use Rattle.std.proofs.Common.{refl}
use Rattle.totals.specs.ExactLaws.{none_is}
use Rattle.totals.proofs.exact.nothing.Goals as goal

pub returns : goal.returns
returns c = (refl, none_is)
