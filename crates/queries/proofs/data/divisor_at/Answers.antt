-- `data::divisor_at`: the two bytes behind the head.
use Rattle.std.proofs.Common.{◌∙◌}
use Rattle.areas.specs.NumberLaws.{two_behind}
use Rattle.queries.proofs.data.divisor_at.Goals as goal

pub returns : goal.returns
returns c = c.two_at.ensures.0 ∙ two_behind c.args.query.now c.args.at 3
