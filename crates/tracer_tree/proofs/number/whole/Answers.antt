-- The proof of tracer_tree::number::whole, by answers to its goals.
use Rattle.std.proofs.Common.{arith, sym, ap, ◌∙◌, ◌+◌, ◌*◌, drop}
use Rattle.spec_tracer.specs.Values.{decimal}
use Rattle.tracer_tree.specs.NumberLaws.{digits_next, decimal_next, decimal_below, decimal_end}
use Rattle.tracer_tree.proofs.number.whole.Goals as goal

pub overflow_mul-number : goal.overflow_mul-number
overflow_mul-number c = omega (arith, decimal_below c.args.digits.now c.loop-digit.digit-index c.loop-digit-test.true c.loop-digit.number c.requires c.loop-digit.invariant.1)

pub digit_value-requires : goal.digit_value-requires
digit_value-requires c = (digits_next c.args.digits.now c.loop-digit.digit-index c.loop-digit-test.true c.loop-digit.invariant.0).0

pub overflow_add-number : goal.overflow_add-number
overflow_add-number c = omega (arith, decimal_below c.args.digits.now c.loop-digit.digit-index c.loop-digit-test.true c.loop-digit.number c.requires c.loop-digit.invariant.1, c.digit_value.ensures.0)

pub loop-digit-preserved : goal.loop-digit-preserved
loop-digit-preserved c = (
  (digits_next c.args.digits.now c.loop-digit.digit-index c.loop-digit-test.true c.loop-digit.invariant.0).1,
  ap (λ n. decimal (c.loop-digit.number * 10 + n) (drop (c.loop-digit.digit-index + 1) c.args.digits.now)) c.digit_value.ensures.0
      ∙ sym (decimal_next c.args.digits.now c.loop-digit.digit-index c.loop-digit-test.true c.loop-digit.number) ∙ c.loop-digit.invariant.1,
)

pub returns : goal.returns
returns c = sym (decimal_end c.loop-digit.number c.args.digits.now c.loop-digit.digit-index (omega arith)) ∙ c.loop-digit.invariant.1
