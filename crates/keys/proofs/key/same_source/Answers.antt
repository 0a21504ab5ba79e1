-- The proof of keys::key::same_source, by answers to its goals.
use Rattle.keys.specs.KeyLaws.{pair_walk, same_source_is}
use Rattle.keys.proofs.key.same_source.Goals as goal

pub same_values-requires : goal.same_values-requires
same_values-requires c =
    (pair_walk c.pair_at-at.ensures c.requires.0 c.requires.1, pair_walk c.pair_at-at.ensures c.requires.0 c.requires.2)

pub returns : goal.returns
returns c = same_source_is c.pair_at-at.ensures c.same_values.ensures
