-- The proof of areas::area::carry, by answers to its goals: the first i bytes of the source are pasted.
use Rattle.std.proofs.Common.{arith, length-set}
use Rattle.areas.specs.AreaLaws.{carry_more}
use Rattle.areas.proofs.area.carry.Goals as goal

pub loop-i-preserved : goal.loop-i-preserved
loop-i-preserved c = (
  omega arith,
  simp length-set c.loop-i.invariant.1,
  carry_more c.args.work.now c.args.from c.args.len c.requires.0
      c.args.to c.loop-i.i c.requires.1 c.requires.2 (omega arith) c.loop-i.invariant.2,
)
