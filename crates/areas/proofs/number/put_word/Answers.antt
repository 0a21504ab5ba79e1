-- The proof of areas::number::put_word, by answers to its goals.
use Rattle.spec_trees.specs.Bytes.{big, low}
use Rattle.areas.specs.NumberLaws.{stored_word}
use Rattle.areas.proofs.number.put_word.Goals as goal

pub returns : goal.returns
unfolding big low
returns c = stored_word c.args.work.now c.args.at _ _ _ _ _ _ _ _ c.requires
