-- The proof of classes::fit::pair_fits, by answers to its goals.
use Rattle.classes.specs.FitLaws.{source_holds, pair_total, pair_plain}
use Rattle.classes.proofs.fit.pair_fits.Goals as goal

pub is_total-requires : goal.is_total-requires
is_total-requires c = c.requires.1

pub pair_at-at-requires : goal.pair_at-at-requires
pair_at-at-requires c = c.requires.1

pub source_fits-requires : goal.source_fits-requires
source_fits-requires c = (c.requires.0, source_holds c.pair_at-at.ensures c.requires.1)

pub returns-then-is_total : goal.returns-then-is_total
returns-then-is_total c = pair_total c.is_total.ensures c.pair_at-at.ensures c.if-is_total.true c.source_fits.ensures

pub returns : goal.returns
returns c = pair_plain c.is_total.ensures c.if-is_total.false
