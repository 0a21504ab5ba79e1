-- The proof of keys::key::hash_source, by answers to its goals.
use Rattle.keys.specs.KeyLaws.{pair_walk}
use Rattle.keys.specs.KeyHashLaws.{source_hash}
use Rattle.keys.proofs.key.hash_source.Goals as goal

pub hash_path-requires : goal.hash_path-requires
hash_path-requires c = (pair_walk c.pair_at-at.ensures c.requires.0 c.requires.1, c.requires.2)

pub returns : goal.returns
returns c = (source_hash c.pair_at-at.ensures c.args.number c.hash_path.ensures.1, c.hash_path.ensures.0)
