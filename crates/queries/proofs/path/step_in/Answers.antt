-- The proof of queries::path::step_in: a byte fits 16 bits.
use Rattle.std.proofs.Common.{arith, ◌+◌}
use Rattle.queries.proofs.path.step_in.Goals as goal

pub overflow_cast-result : goal.overflow_cast-result
overflow_cast-result c = omega (arith, c.type_inv.query (c.args.from + c.args.i))
