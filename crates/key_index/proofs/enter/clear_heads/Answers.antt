-- The proof of key_index::enter::clear_heads, by answers to its goals.
use Rattle.key_index.specs.AllLaws.{heads_cleared}
use Rattle.key_index.proofs.enter.clear_heads.Goals as goal

pub returns : goal.returns
returns c = heads_cleared c.args.work.now _ c.requires c.clear.ensures
