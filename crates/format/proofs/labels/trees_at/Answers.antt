-- The proof of format::labels::trees_at, by answers to its goals.
use Rattle.std.proofs.Common.{ap, ◌+◌}
use Rattle.format.specs.Labels.{trees_at}
use Rattle.format.proofs.labels.trees_at.Goals as goal

pub returns : goal.returns
unfolding trees_at
returns c = ap (λ n. c.args.at + n) c.wide.ensures.0
