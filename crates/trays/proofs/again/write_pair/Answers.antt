-- The proof of trays::again::write_pair, by answers to its goals.
use Rattle.std.proofs.Common.{arith}
use Rattle.trays.specs.AgainLaws.{field_size, pair_written}
use Rattle.trays.proofs.again.write_pair.Goals as goal

pub returns : goal.returns
returns c =
    pair_written (c.args.query.now) (c.args.target) c.args.at (omega (
      arith,
      (field_size (c.args.query.now)
          (c.args.target) c.requires.rising c.requires.inside),
      c.requires.room,
    )) c.copy_twice.auto.out c.copy_twice.ensures
    c.put_head.ensures
