-- The proof of project::project::write_item, by answers to its goals.
use Rattle.project.specs.ProjectLaws.{keep_ready, place_ready, item_kept, item_placed}
use Rattle.project.proofs.project.write_item.Goals as goal

pub keep-requires : goal.keep-requires
keep-requires c = keep_ready c.item_at-x.ensures c.requires c.in-Keep.is

pub write_place-requires : goal.write_place-requires
write_place-requires c = place_ready c.item_at-x.ensures c.requires c.in-Place.is

pub returns-in-Keep : goal.returns-in-Keep
returns-in-Keep c = item_kept c.item_at-x.ensures c.in-Keep.is c.keep.ensures

pub returns-in-Place : goal.returns-in-Place
returns-in-Place c = item_placed c.item_at-x.ensures c.in-Place.is c.write_place.ensures
