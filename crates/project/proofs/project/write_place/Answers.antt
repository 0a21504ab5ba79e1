-- The proof of project::project::write_place, by answers to its goals.
use Rattle.std.proofs.Common.{arith}
use Rattle.build.specs.MadeLaws.{target_along, target_room}
use Rattle.project.specs.ProjectLaws.{place_data, place_value_ready, place_written}
use Rattle.project.proofs.project.write_place.Goals as goal

pub heads_room-n-requires : goal.heads_room-n-requires
heads_room-n-requires c = target_along c.requires.target

pub overflow_add-inner : goal.overflow_add-inner
overflow_add-inner c =
    omega (
      arith,
      c.heads_room-n.ensures,
      target_room c.requires.target,
      c.requires.tree_room,
      c.requires.ready.area,
      c.requires.ready.small,
    )

pub write_data-r-requires : goal.write_data-r-requires
write_data-r-requires c = place_data c.requires c.heads_room-n.ensures

pub place_value-requires : goal.place_value-requires
place_value-requires c =
    place_value_ready c.requires c.heads_room-n.ensures c.write_data-r.auto.work c.write_data-r.ensures

pub returns : goal.returns
returns c =
    place_written c.requires c.heads_room-n.ensures c.write_data-r.auto.work c.write_data-r.ensures
    c.place_value.ensures
