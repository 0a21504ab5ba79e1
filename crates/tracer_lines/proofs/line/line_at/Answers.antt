-- The proof of tracer_lines::line::line_at, by answers to its goals.
use Rattle.std.proofs.Common.{arith, sym, ◌+◌}
use Rattle.spec_tracer.specs.Message.{equals, carriage_return, line_feed, is_name_byte}
use Rattle.tracer_lines.specs.PieceLaws.{piece_above, piece_inside}
use Rattle.tracer_lines.specs.LineLaws.{stands_inside, line_nameless, line_unequal, line_valueless, line_unended, line_half, line_whole}
use Rattle.tracer_lines.proofs.line.line_at.Goals as goal

pub is_name-requires : goal.is_name-requires
is_name-requires c = (
  piece_above is_name_byte c.args.message.now c.args.from c.requires c.name_end-name.ensures,
  piece_inside
      is_name_byte c.args.message.now c.args.from c.requires c.name_end-name.ensures,
)

pub returns-then-not-is_name : goal.returns-then-not-is_name
returns-then-not-is_name c =
    line_nameless c.args.message.now c.args.from c.requires c.name_end-name.ensures (sym c.if-not-is_name.ensures)

pub returns-then-not-stands : goal.returns-then-not-stands
returns-then-not-stands c =
    line_unequal c.args.message.now c.args.from c.requires c.name_end-name.ensures (sym c.if-not-is_name.ensures) (sym c.if-not-stands.ensures)

pub overflow_add-name : goal.overflow_add-name
overflow_add-name c =
    omega (
      arith,
      (stands_inside c.args.message.now c.name_end-name.result equals (sym c.if-not-stands.ensures)),
    )

pub values_end-requires : goal.values_end-requires
values_end-requires c =
    omega (
      arith,
      (stands_inside c.args.message.now c.name_end-name.result equals (sym c.if-not-stands.ensures)),
    )

pub returns-in_err-end : goal.returns-in_err-end
returns-in_err-end c = rw c.from_residual.ensures (line_valueless c.args.message.now c.args.from c.requires c.name_end-name.ensures (sym c.if-not-is_name.ensures) (sym c.if-not-stands.ensures) c.values_end.ensures c.in_err-end.was)

pub returns-then-not-stands-2 : goal.returns-then-not-stands-2
returns-then-not-stands-2 c =
    line_unended c.args.message.now c.args.from c.requires c.name_end-name.ensures (sym c.if-not-is_name.ensures) (sym c.if-not-stands.ensures) (c.values_end.ensures.at c.in_ok-end.end c.in_ok-end.was) (sym c.if-not-stands-2.ensures)

pub overflow_add-end : goal.overflow_add-end
overflow_add-end c =
    omega (
      arith,
      stands_inside c.args.message.now c.in_ok-end.end carriage_return (sym c.if-not-stands-2.ensures),
    )

pub returns-then-not-stands-3 : goal.returns-then-not-stands-3
returns-then-not-stands-3 c =
    line_half c.args.message.now c.args.from c.requires c.name_end-name.ensures (sym c.if-not-is_name.ensures) (sym c.if-not-stands.ensures) (c.values_end.ensures.at c.in_ok-end.end c.in_ok-end.was) (sym c.if-not-stands-2.ensures) (sym c.if-not-stands-3.ensures)

pub overflow_add-result : goal.overflow_add-result
overflow_add-result c =
    omega (
      arith,
      stands_inside c.args.message.now (c.in_ok-end.end + 1) line_feed (sym c.if-not-stands-3.ensures),
    )

pub returns : goal.returns
returns c =
    line_whole c.args.message.now c.args.from c.requires c.name_end-name.ensures (sym c.if-not-is_name.ensures) (sym c.if-not-stands.ensures) (c.values_end.ensures.at c.in_ok-end.end c.in_ok-end.was) (sym c.if-not-stands-2.ensures) (sym c.if-not-stands-3.ensures)
