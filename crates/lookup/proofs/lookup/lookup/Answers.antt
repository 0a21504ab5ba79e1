-- The proof of lookup::lookup::lookup, by answers to its goals.
use Rattle.std.proofs.Common.{arith}
use Rattle.build.specs.MadeLaws.{target_along, target_room}
use Rattle.lookup.specs.LookupLaws.{lookup_matching, lookup_value, lookup_adding, lookup_made}
use Rattle.data.specs.ValueLaws.{mapped}
use Rattle.lookup.proofs.lookup.lookup.Goals as goal

pub heads_room-n-requires : goal.heads_room-n-requires
heads_room-n-requires c = target_along c.requires.target

pub overflow_add-inner : goal.overflow_add-inner
overflow_add-inner c =
    omega (arith, c.heads_room-n.ensures, target_room c.requires.target, c.requires.room, c.requires.small)

pub copy_partners-all-requires : goal.copy_partners-all-requires
copy_partners-all-requires c = lookup_matching c.requires c.heads_room-n.ensures

pub place_value-placed-requires : goal.place_value-placed-requires
place_value-placed-requires c =
    lookup_value c.requires c.heads_room-n.ensures c.copy_partners-all.auto.work c.copy_partners-all.ensures
    (mapped c.copy_partners-all.result c.map.result c.map.ensures.cases)

pub add_written-requires : goal.add_written-requires
add_written-requires c =
    lookup_adding c.requires c.heads_room-n.ensures c.copy_partners-all.auto.work c.copy_partners-all.ensures
    (mapped c.copy_partners-all.result c.map.result c.map.ensures.cases) c.place_value-placed.auto.work c.place_value-placed.ensures

pub returns : goal.returns
returns c =
    lookup_made c.requires c.heads_room-n.ensures c.copy_partners-all.auto.work c.copy_partners-all.ensures
    (mapped c.copy_partners-all.result c.map.result c.map.ensures.cases) c.place_value-placed.auto.work c.place_value-placed.ensures c.add_written.ensures
