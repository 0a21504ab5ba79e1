-- The proof of tracer::trace::trace, by answers to its goals.
use Rattle.std.proofs.Common.{arith}
use Rattle.tracer.specs.TraceLaws.{one_of, over_length, out_of_form, traced_ends}
use Rattle.tracer.proofs.trace.trace.Goals as goal

pub returns-then-message-gt-MESSAGE : goal.returns-then-message-gt-MESSAGE
returns-then-message-gt-MESSAGE c =
    over_length c.args.message.now c.args.res.now (omega (arith, c.if-message-gt-MESSAGE.true))

pub returns-then-not-read_lines : goal.returns-then-not-read_lines
returns-then-not-read_lines c =
    out_of_form c.args.message.now c.args.res.now (omega (arith, c.if-message-gt-MESSAGE.false)) c.read_lines.ensures
    c.if-not-read_lines.true

pub returns : goal.returns
returns c =
    traced_ends c.args.message.now c.args.res.now (omega (arith, c.if-message-gt-MESSAGE.false))
    (c.read_lines.ensures.noted c.if-not-read_lines.false) (omega arith)
    c.write_array-written.auto.out c.write_array-written.ensures (one_of c.min-room.ensures) c.end_trace.ensures
