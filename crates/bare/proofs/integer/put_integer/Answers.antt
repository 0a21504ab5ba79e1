-- The proof of bare::integer::put_integer, by answers to its goals.
use Rattle.std.proofs.Common.{arith, ◌∙◌}
use Rattle.bare.specs.BareLaws.{integer_large, integer_fits}
use Rattle.bare.proofs.integer.put_integer.Goals as goal

pub returns-then-room-end : goal.returns-then-room-end
returns-then-room-end c = integer_large c.args.work.now c.args.room.from c.args.room.to c.args.bits c.if-room-end.true

pub returns : goal.returns
returns c =
    integer_fits c.args.room.from c.args.room.to c.args.bits (omega arith) c.requires.1 c.put_word.auto.work
    (c.put_head.auto.work ∙ c.put_word.auto.work) c.put_word.ensures c.put_head.ensures c.put_head-2.ensures
