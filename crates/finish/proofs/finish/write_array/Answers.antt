-- The proof of finish::finish::write_array, by answers to its goals.
use Rattle.std.proofs.Common.{arith}
use Rattle.finish.specs.FinishLaws.{array_written}
use Rattle.finish.proofs.finish.write_array.Goals as goal

pub put_head-requires : goal.put_head-requires
put_head-requires c = (omega (arith, c.requires.0), omega arith, omega (arith, c.requires.1))

pub emit-requires : goal.emit-requires
emit-requires c = omega (arith, c.requires.0, c.put_head.auto.work)

pub returns : goal.returns
returns c = array_written c.requires.0 c.put_head.auto.work c.put_head.ensures c.emit.ensures c.emit.auto.res
