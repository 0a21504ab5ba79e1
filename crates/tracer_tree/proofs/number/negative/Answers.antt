-- The proof of tracer_tree::number::negative, by answers to its goals.
use Rattle.tracer_tree.specs.NumberLaws.{pattern_negative}
use Rattle.tracer_tree.proofs.number.negative.Goals as goal

pub returns : goal.returns
returns c = pattern_negative c.args.amount c.wrapping_neg.result c.ranges.amount.fits c.wrapping_neg.type_inv c.wrapping_neg.ensures
