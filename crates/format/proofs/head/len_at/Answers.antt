-- `head::len_at`: the two bytes behind the tag.
use Rattle.std.proofs.Common.{◌∙◌}
use Rattle.areas.specs.NumberLaws.{two_behind}
use Rattle.format.proofs.head.len_at.Goals as goal

pub returns : goal.returns
returns c = (c.two_at.ensures.0 ∙ two_behind c.args.area.now c.args.at 1, c.two_at.ensures.1)
