-- The proof of tracer_lines::line::values_end, by answers to its goals.
use Rattle.std.proofs.Common.{arith, sym}
use Rattle.spec_tracer.specs.Message.{semicolon, is_value_byte}
use Rattle.tracer_lines.specs.PieceLaws.{piece_above}
use Rattle.tracer_lines.specs.LineLaws.{stands_inside, first_long, first_alone, second_long, second_at}
use Rattle.tracer_lines.proofs.line.values_end.Goals as goal

pub overflow_sub-first : goal.overflow_sub-first
overflow_sub-first c = piece_above is_value_byte c.args.message.now c.args.from c.requires c.value_end-first.ensures

pub returns-then-first-from-gt-VALUE : goal.returns-then-first-from-gt-VALUE
returns-then-first-from-gt-VALUE c =
    first_long c.args.message.now c.args.from c.requires c.value_end-first.ensures (omega (
      arith,
      c.if-first-from-gt-VALUE.true,
    ))

pub returns-then-not-stands : goal.returns-then-not-stands
returns-then-not-stands c =
    first_alone c.args.message.now c.args.from c.requires c.value_end-first.ensures (omega (
      arith,
      c.if-first-from-gt-VALUE.false,
    )) (sym c.if-not-stands.ensures)

pub value_end-second-requires : goal.value_end-second-requires
value_end-second-requires c =
    (omega (
      arith,
      stands_inside c.args.message.now c.value_end-first.result semicolon (sym c.if-not-stands.ensures),
    ))

pub overflow_sub-second : goal.overflow_sub-second
overflow_sub-second c =
    piece_above is_value_byte c.args.message.now _ (omega (
      arith,
      stands_inside c.args.message.now
          c.value_end-first.result semicolon (sym c.if-not-stands.ensures),
    ))
    c.value_end-second.ensures

pub returns-then-second-first-gt-VALUE : goal.returns-then-second-first-gt-VALUE
returns-then-second-first-gt-VALUE c =
    second_long c.args.message.now c.args.from c.requires c.value_end-first.ensures (omega (
      arith,
      c.if-first-from-gt-VALUE.false,
    )) (sym c.if-not-stands.ensures)
    c.value_end-second.ensures (omega (arith, c.if-second-first-gt-VALUE.true))

pub returns : goal.returns
returns c =
    second_at c.args.message.now c.args.from c.requires c.value_end-first.ensures (omega (
      arith,
      c.if-first-from-gt-VALUE.false,
    )) (sym c.if-not-stands.ensures)
    c.value_end-second.ensures (omega (arith, c.if-second-first-gt-VALUE.false))
