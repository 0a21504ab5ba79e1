-- The proof of project::project::add_item, by answers to its goals.
use Rattle.project.specs.ProjectLaws.{item_ready, item_adding, item_added}
use Rattle.project.proofs.project.add_item.Goals as goal

pub write_item-r-requires : goal.write_item-r-requires
write_item-r-requires c = item_ready c.requires

pub add_written-requires : goal.add_written-requires
add_written-requires c = item_adding c.requires c.write_item-r.auto.work c.write_item-r.ensures

pub returns : goal.returns
returns c = item_added c.requires c.write_item-r.auto.work c.write_item-r.ensures c.add_written.ensures
