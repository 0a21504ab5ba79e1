-- The proof of unwind::unwind::put_outcome, by answers to its goals.
use Rattle.unwind.specs.OutcomeLaws.{outcome_past, outcome_written}
use Rattle.unwind.proofs.unwind.put_outcome.Goals as goal

pub returns-in_default : goal.returns-in_default
returns-in_default c = outcome_past c.put_nth-one.ensures c.requires.2 c.in_default.is

pub returns : goal.returns
returns c = outcome_written c.put_nth-one.ensures c.in-Written.is
