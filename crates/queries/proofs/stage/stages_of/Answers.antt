-- The proof of queries::stage::stages_of, by answers to its goals: the content of the query's field.
use Rattle.queries.specs.PlaceLaws.{query_reads}
use Rattle.queries.proofs.stage.stages_of.Goals as goal

pub returns : goal.returns
returns c = query_reads c.args.query.now
