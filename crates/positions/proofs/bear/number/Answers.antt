-- The proof of positions::bear::number, by answers to its goals.
use Rattle.std.proofs.Common.{arith}
use Rattle.positions.specs.BearingLaws.{numbers_all}
use Rattle.positions.proofs.bear.number.Goals as goal

pub bear-requires : goal.bear-requires
bear-requires c = (c.requires, omega arith, omega arith)

pub returns : goal.returns
returns c = numbers_all c.bear.ensures
