-- The proof of queries::item::pair_at, by answers to its goals.
use Rattle.std.proofs.Common.{arith, refl}
use Rattle.queries.specs.PlaceLaws.{pair_reads, pair_room}
use Rattle.queries.proofs.item.pair_at.Goals as goal

pub field_end-m-requires : goal.field_end-m-requires
field_end-m-requires c = omega (arith, pair_room c.requires refl)

pub returns : goal.returns
returns c = pair_reads c.field_end-m.ensures
