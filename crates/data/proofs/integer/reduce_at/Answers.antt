-- The proof of data::integer::reduce_at, by answers to its goals.
use Rattle.std.proofs.Common.{arith}
use Rattle.areas.specs.AreaLaws.{wrote_keep}
use Rattle.data.specs.IntegerLaws.{reduces}
use Rattle.data.proofs.integer.reduce_at.Goals as goal

pub returns : goal.returns
returns c = (
  wrote_keep c.put_word.ensures (omega arith),
  reduces c.args.work.now c.put_word.new.work c.args.at c.args.divisor
      c.word_at-bits.ensures c.reduce.ensures.0 c.reduce.ensures.1 c.put_word.ensures,
)
