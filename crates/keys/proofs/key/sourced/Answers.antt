-- The proof of keys::key::sourced, by answers to its goals.
use Rattle.keys.specs.KeyLaws.{pair_walk, sourced_is}
use Rattle.keys.proofs.key.sourced.Goals as goal

pub present-requires : goal.present-requires
present-requires c = pair_walk c.pair_at-at.ensures c.requires.0 c.requires.1

pub returns : goal.returns
returns c = sourced_is c.pair_at-at.ensures c.present.ensures
