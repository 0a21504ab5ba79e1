-- The proof of trays::again::copy_twice, by answers to its goals.
use Rattle.std.proofs.Common.{arith, length-set}
use Rattle.trays.specs.AgainLaws.{twice_begin, twice_next, twice_end}
use Rattle.trays.proofs.again.copy_twice.Goals as goal

pub loop-i-init : goal.loop-i-init
loop-i-init c = (omega arith, twice_begin c.args.out.now c.args.at c.args.source.now c.requires)

pub bounds-out-at-in-loop-i : goal.bounds-out-at-in-loop-i
bounds-out-at-in-loop-i c = simp length-set (omega (arith, c.requires, c.loop-i.invariant.1.same, c.loop-i-test.true))

pub loop-i-preserved : goal.loop-i-preserved
loop-i-preserved c = (
  omega arith,
  twice_next c.args.out.now c.args.at c.args.source.now c.requires c.loop-i.invariant.1
      c.loop-i-test.true,
)

pub returns : goal.returns
returns c =
    twice_end c.args.out.now c.args.at c.args.source.now c.requires c.loop-i.invariant.1 c.loop-i-test.false
    c.loop-i.invariant.0
