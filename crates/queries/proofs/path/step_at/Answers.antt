-- The proof of queries::path::step_at, by answers to its goals.
use Rattle.queries.specs.Steps.{step_at}
use Rattle.queries.proofs.path.step_at.Goals as goal

pub returns : goal.returns
unfolding step_at
returns c = c.step_in.ensures
