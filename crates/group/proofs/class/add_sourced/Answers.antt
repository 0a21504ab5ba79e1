-- The proof of group::class::add_sourced, by answers to its goals.
use Rattle.queries.specs.PartLaws.{holds_of}
use Rattle.keys.specs.KeyLaws.{pair_walk, sourced_is}
use Rattle.group.specs.PairLaws.{first_holds, sourced_skip, sourced_add}
use Rattle.group.proofs.class.add_sourced.Goals as goal

pub pair_at-at-requires : goal.pair_at-at-requires
pair_at-at-requires c = holds_of c.requires.asked

pub present-requires : goal.present-requires
present-requires c =
    pair_walk c.pair_at-at.ensures (holds_of c.requires.asked) (first_holds c.requires.members c.requires.there)

pub returns-then-not-present : goal.returns-then-not-present
returns-then-not-present c =
    sourced_skip (sourced_is c.pair_at-at.ensures c.present.ensures) (c.if-not-present.true) c.requires.within

pub add_identity-requires : goal.add_identity-requires
add_identity-requires c = c.requires

pub returns : goal.returns
returns c =
    sourced_add (sourced_is c.pair_at-at.ensures c.present.ensures) (c.if-not-present.false) c.add_identity.ensures
