-- The proof of format::labels::label_at, by answers to its goals.
use Rattle.std.proofs.Common.{arith, refl, ◌+◌}
use Rattle.format.proofs.labels.label_at.Goals as goal

pub overflow_cast-result : goal.overflow_cast-result
overflow_cast-result c = omega (arith, c.type_inv.area (c.args.at + 3))

pub returns : goal.returns
returns c = refl
