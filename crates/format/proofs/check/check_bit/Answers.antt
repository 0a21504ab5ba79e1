-- `check::check_bit`: one byte below 2, or another number of bytes.
use Rattle.std.proofs.Common.{sym}
use Rattle.format.specs.CheckLaws.{root_bit, root_not_bit}
use Rattle.format.proofs.check.check_bit.Goals as goal

pub returns-then-content-at-eq1 : goal.returns-then-content-at-eq1
returns-then-content-at-eq1 c =
    sym (root_bit c.args.area.now c.args.content.from c.args.content.to c.requires.1 c.if-content-at-eq1.true)

pub returns-else-content-at-eq1 : goal.returns-else-content-at-eq1
returns-else-content-at-eq1 c =
    sym (root_not_bit c.args.area.now c.args.content.from c.args.content.to c.requires.1 c.if-content-at-eq1.false)
