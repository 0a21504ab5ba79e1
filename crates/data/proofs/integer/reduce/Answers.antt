-- The proof of data::integer::reduce, by answers to its goals: the magnitude is divided.
use Rattle.std.proofs.Common.{arith, refl, ◌+◌, ◌-◌}
use Rattle.data.specs.IntegerLaws.{near_le, reduce_pos, reduce_zero, reduce_neg}
use Rattle.data.proofs.integer.reduce.Goals as goal

pub returns-then-bits-lt9223372036854775808 : goal.returns-then-bits-lt9223372036854775808
returns-then-bits-lt9223372036854775808 c = (
  omega (arith, near_le c.args.divisor c.args.bits c.requires.0),
  reduce_pos c.args.bits c.args.divisor c.requires.0
      c.if-bits-lt9223372036854775808.true,
)

pub returns-then-k-eq0 : goal.returns-then-k-eq0
returns-then-k-eq0 c = (
  omega arith,
  reduce_zero c.args.bits c.args.divisor c.requires.0 c.if-bits-lt9223372036854775808.false
      c.ranges.bits.fits _ refl c.if-k-eq0.true,
)

pub overflow_sub-result : goal.overflow_sub-result
overflow_sub-result c = omega (arith, near_le c.args.divisor (18446744073709551615 - c.args.bits + 1) c.requires.0)

pub returns : goal.returns
returns c = (
  omega arith,
  reduce_neg c.args.bits c.args.divisor c.requires.0 c.if-bits-lt9223372036854775808.false
      c.ranges.bits.fits _ refl c.if-k-eq0.false,
)
