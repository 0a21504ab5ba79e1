-- The proof of areas::area::copy_down, by answers to its goals: the bytes from the i-th on are copied.
use Rattle.std.proofs.Common.{◌-◌, arith, length-set}
use Rattle.areas.specs.AreaLaws.{back_more, back_end}
use Rattle.areas.proofs.area.copy_down.Goals as goal

pub loop-i-preserved : goal.loop-i-preserved
loop-i-preserved c = (
  omega arith,
  simp length-set c.loop-i.invariant.1,
  back_more c.args.work.now c.args.part.from (c.args.part.to -
      c.args.part.from) c.args.to (omega arith) (omega arith) c.loop-i.i (λ z. omega (arith, z)) c.loop-i.invariant.0
      c.loop-i.invariant.2,
)

pub returns : goal.returns
returns c =
    back_end c.args.work.now c.args.part.from (c.args.part.to - c.args.part.from) c.args.to (omega arith) (omega arith)
    c.loop-i.i (omega arith) c.loop-i.invariant.2
