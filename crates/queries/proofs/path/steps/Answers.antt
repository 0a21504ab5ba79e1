-- The proof of queries::path::steps, by answers to its goals.
use Rattle.queries.specs.Steps.{step_count}
use Rattle.queries.proofs.path.steps.Goals as goal

pub returns : goal.returns
unfolding step_count
returns c = c.count_in.ensures
