-- The proof of unwind::unwind::put_whole, by answers to its goals.
use Rattle.unwind.specs.OutcomeLaws.{whole_past, whole_written}
use Rattle.unwind.proofs.unwind.put_whole.Goals as goal

pub returns-then-j-ne0 : goal.returns-then-j-ne0
returns-then-j-ne0 c = λ t h. whole_past c.args.work.now c.args.room.from c.args.room.to t c.args.j c.if-j-ne0.true

pub returns : goal.returns
returns c = λ t h. whole_written t c.args.j c.if-j-ne0.false c.copy-all.ensures h
