-- The proof of lookup::matching::joins, by answers to its goals.
use Rattle.lookup.specs.MatchingLaws.{joins_is}
use Rattle.lookup.proofs.matching.joins.Goals as goal

pub returns : goal.returns
returns c = joins_is c.same_keys.ensures
