-- The proof of compare::compare::compare, by answers to its goals: from i on all is the same.
use Rattle.std.proofs.Common.{arith, ap, ◌-◌, get_or}
use Rattle.compare.specs.CompareLaws.{none_compared, byte_compared, told_apart, lengths_apart}
use Rattle.compare.proofs.compare.compare.Goals as goal

pub returns-then-one-other : goal.returns-then-one-other
returns-then-one-other c = lengths_apart c.args.one.now c.args.other.now (λ q. omega (arith, c.if-one-other.true))

pub loop-i-init : goal.loop-i-init
loop-i-init c = none_compared c.args.one.now c.args.other.now (omega (arith, c.if-one-other.false))

pub returns-then-one-i : goal.returns-then-one-i
returns-then-one-i c =
    told_apart c.loop-i.invariant (omega (arith, c.loop-i-test.true)) (λ e. c.if-one-i.true (ap (λ l. get_or l
    (c.loop-i.i - 1) 0) e))

pub loop-i-smaller : goal.loop-i-smaller
loop-i-smaller c = omega (arith, c.loop-i-test.true)

pub loop-i-preserved : goal.loop-i-preserved
loop-i-preserved c =
    byte_compared c.loop-i.invariant (c.loop-i.i - 1) (omega (arith, c.loop-i-test.true)) (λ z. omega (
      arith,
      c.loop-i-test.true,
    )) c.if-one-i.false
