-- The proof of data::data::write_path, by answers to its goals.
use Rattle.data.specs.WriteDataLaws.{path_plain}
use Rattle.data.proofs.data.write_path.Goals as goal

pub write_walk-requires : goal.write_walk-requires
write_walk-requires c = c.requires

pub returns : goal.returns
returns c =
    path_plain c.args.query.now c.args.path 0 c.args.work.now c.write_walk.new.work c.args.tree.from c.args.tree.to
    c.args.room.from c.args.room.to c.write_walk.result c.write_walk.ensures.1
