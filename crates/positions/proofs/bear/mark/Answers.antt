-- The proof of positions::bear::mark, by answers to its goals.
use Rattle.std.proofs.Common.{arith}
use Rattle.positions.specs.BearingLaws.{marks_all}
use Rattle.positions.proofs.bear.mark.Goals as goal

pub bear-requires : goal.bear-requires
bear-requires c = (c.requires.0, c.requires.1, omega arith)

pub returns : goal.returns
returns c = marks_all c.bear.ensures
