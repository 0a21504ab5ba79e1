-- The proof of trays::again::write_again, by answers to its goals.
use Rattle.trays.specs.AgainLaws.{aggregates_room, keys_room, group_written}
use Rattle.trays.proofs.again.write_again.Goals as goal

pub write_pairs-m-requires : goal.write_pairs-m-requires
write_pairs-m-requires c = aggregates_room c.requires

pub write_pairs-end-requires : goal.write_pairs-end-requires
write_pairs-end-requires c = keys_room c.requires c.write_pairs-m.auto.out c.write_pairs-m.ensures

pub returns : goal.returns
returns c = group_written c.requires c.write_pairs-m.auto.out c.write_pairs-m.ensures c.write_pairs-end.ensures
