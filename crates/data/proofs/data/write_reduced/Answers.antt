-- The proof of data::data::write_reduced, by answers to its goals.
use Rattle.std.proofs.Common.{arith}
use Rattle.data.specs.WriteDataLaws.{path_reduced}
use Rattle.data.proofs.data.write_reduced.Goals as goal

pub write_walk-requires : goal.write_walk-requires
write_walk-requires c = c.requires.0

pub returns : goal.returns
returns c =
    path_reduced c.args.query.now c.args.path 0 c.args.work.now c.write_walk.new.work c.args.tree.from c.args.tree.to
    c.args.room.from c.args.room.to c.write_walk.result (λ z. omega (arith, c.requires.1)) c.write_walk.ensures.1
