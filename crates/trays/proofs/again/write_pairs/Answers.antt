-- The proof of trays::again::write_pairs, by answers to its goals: what is written behind `to` for the pairs from `from`
-- on makes all of them written.
use Rattle.std.proofs.Common.{refl, arith}
use Rattle.spec_queries.specs.Bytes.{pair_f}
use Rattle.queries.specs.PartLaws.{list_places, list_first}
use Rattle.trays.specs.AgainLaws.{pairs_begin, pairs_held, pairs_end, pairs_room, pairs_next}
use Rattle.trays.proofs.again.write_pairs.Goals as goal

pub loop-from-init : goal.loop-from-init
loop-from-init c = pairs_begin c.requires

pub field_end-m-requires : goal.field_end-m-requires
field_end-m-requires c = omega (arith, list_places pair_f c.loop-from-test.true refl (pairs_held c.loop-from.invariant))

pub pair_at-pair-requires : goal.pair_at-pair-requires
pair_at-pair-requires c =
    list_first pair_f c.loop-from-test.true c.field_end-m.ensures (pairs_held c.loop-from.invariant)

pub write_pair-to-requires : goal.write_pair-to-requires
write_pair-to-requires c =
    pairs_room c.loop-from.invariant c.loop-from-test.true c.field_end-m.ensures c.pair_at-pair.ensures

pub loop-from-smaller : goal.loop-from-smaller
loop-from-smaller c =
    omega (arith, list_places pair_f c.loop-from-test.true c.field_end-m.ensures (pairs_held c.loop-from.invariant))

pub loop-from-preserved : goal.loop-from-preserved
loop-from-preserved c =
    pairs_next c.loop-from.invariant c.loop-from-test.true c.field_end-m.ensures c.pair_at-pair.ensures
    c.write_pair-to.auto.out c.write_pair-to.ensures

pub shape_of-out : goal.shape_of-out
shape_of-out c = c.loop-from.invariant.same

pub returns : goal.returns
returns c = pairs_end c.loop-from.invariant c.loop-from-test.false
