-- The proof of lookup::lookup::copy_match, by answers to its goals.
use Rattle.lookup.specs.LookupLaws.{match_copied, match_left}
use Rattle.lookup.proofs.lookup.copy_match.Goals as goal

pub returns-then-joins : goal.returns-then-joins
returns-then-joins c = match_copied c.args.at c.joins.ensures c.if-joins.true c.copy_in.ensures

pub returns : goal.returns
returns c = match_left c.args.at c.joins.ensures c.if-joins.false c.requires.room
