-- `check::check_divisor`: two bytes, and the number that they are.
use Rattle.std.proofs.Common.{rules}
use Rattle.spec_queries.specs.Query.{is_divisor}
use Rattle.queries.specs.CheckLaws.{divisor_size, divisor_is}
use Rattle.queries.proofs.check.check_divisor.Goals as goal

pub returns-then-content-eq2 : goal.returns-then-content-eq2
unfolding is_divisor
returns-then-content-eq2 c =
    let e = divisor_is c.args.area.now c.args.content.from c.args.content.to c.requires.1 c.if-content-eq2.true _ c.two_at.ensures.0 in
    search rules

pub returns-else-content-eq2 : goal.returns-else-content-eq2
returns-else-content-eq2 c =
    let e = divisor_size c.args.area.now c.args.content.from c.args.content.to c.requires.1 c.if-content-eq2.false in
    search rules
