-- The proof of totals::write::write_total, by answers to its goals.
use Rattle.data.specs.ValueLaws.{large_on, value_ok, value_err}
use Rattle.totals.specs.WriteLaws.{total_none, total_some}
use Rattle.totals.proofs.write.write_total.Goals as goal

pub returns-then-total-eq0 : goal.returns-then-total-eq0
returns-then-total-eq0 c = total_none c.args.work.now c.args.room.from c.args.room.to c.args.total c.if-total-eq0.true

pub returns : goal.returns
returns c =
    total_some c.args.work.now c.args.room.from c.args.room.to c.args.total c.if-total-eq0.false c.bits.ensures
    (value_ok c.in_ok-end.was) c.put_integer.ensures

pub returns-in_err-end : goal.returns-in_err-end
returns-in_err-end c =
    rw (large_on _ c.from_residual.result c.from_residual.ensures.1) (total_some c.args.work.now c.args.room.from c.args.room.to c.args.total c.if-total-eq0.false c.bits.ensures (value_err c.in_err-end.was) c.put_integer.ensures)
