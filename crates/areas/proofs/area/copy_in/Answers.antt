-- The proof of areas::area::copy_in, by answers to its goals: the first i bytes of the source are pasted.
use Rattle.std.proofs.Common.{arith, ap, ◌∙◌, ◌+◌, get_or, set, length-set}
use Rattle.areas.specs.AreaLaws.{paste_more}
use Rattle.areas.proofs.area.copy_in.Goals as goal

pub loop-i-preserved : goal.loop-i-preserved
loop-i-preserved c = (
  omega arith,
  simp length-set c.loop-i.invariant.1,
  ap (λ x. set x (c.args.room.from + c.loop-i.i) (get_or
      c.args.source.now c.loop-i.i 0)) c.loop-i.invariant.2 ∙ paste_more c.args.work.now c.args.source.now
      c.args.room.from c.loop-i.i (omega arith) (omega arith),
)
