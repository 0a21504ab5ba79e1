-- The proof of compare::words::half, by answers to its goals: byte by byte.
use Rattle.std.proofs.Common.{arith}
use Rattle.compare.specs.WordLaws.{low_four}
use Rattle.compare.proofs.words.half.Goals as goal

pub returns : goal.returns
returns c = (
  low_four c.args.area.now c.args.at c.requires c.wide.ensures.0 c.wide-2.ensures.0 c.wide-3.ensures.0
      c.wide-4.ensures.0,
  omega (arith, c.wide.ensures.1, c.wide-2.ensures.1, c.wide-3.ensures.1, c.wide-4.ensures.1),
)
