-- The proof of areas::number::word_at, by answers to its goals: byte by byte.
use Rattle.areas.specs.Number.{word_at}
use Rattle.areas.proofs.number.word_at.Goals as goal

pub returns : goal.returns
unfolding word_at
returns c =
    cc (
      c.wide_word.ensures.0,
      c.wide_word-2.ensures.0,
      c.wide_word-3.ensures.0,
      c.wide_word-4.ensures.0,
      c.wide_word-5.ensures.0,
      c.wide_word-6.ensures.0,
      c.wide_word-7.ensures.0,
      c.wide_word-8.ensures.0,
    )
