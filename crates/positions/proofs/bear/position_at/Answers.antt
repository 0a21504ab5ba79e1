-- The proof of positions::bear::position_at, by answers to its goals.
use Rattle.std.proofs.Common.{ap, ◌∙◌}
use Rattle.areas.specs.Number.{two_at}
use Rattle.positions.proofs.bear.position_at.Goals as goal

pub returns : goal.returns
returns c = (c.two_at.ensures.0 ∙ ap (two_at c.args.work.now) c.place.ensures, c.two_at.ensures.1)
