-- The proof of tracer_tree::number::digit_value, by answers to its goals.
use Rattle.tracer_tree.specs.NumberLaws.{digit_least, digit_said}
use Rattle.tracer_tree.proofs.number.digit_value.Goals as goal

pub overflow_sub-byte : goal.overflow_sub-byte
overflow_sub-byte c = digit_least c.args.byte c.requires

pub returns : goal.returns
returns c = rw c.from.ensures (digit_said c.args.byte c.requires)
