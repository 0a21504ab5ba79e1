-- The proof of tquery::interface::packed, by answers to its goals.
use Rattle.std.proofs.Common.{ap₂, ◌+◌, ◌*◌, arith}
use Rattle.tquery.specs.InterfaceLaws.{packed_most}
use Rattle.tquery.proofs.interface.packed.Goals as goal

pub overflow_mul-result : goal.overflow_mul-result
overflow_mul-result c = omega (arith, c.number.ensures, (packed_most c.args.answer))

pub overflow_add-result : goal.overflow_add-result
overflow_add-result c = omega (arith, c.number.ensures, c.length.ensures, (packed_most c.args.answer), c.requires)

pub returns : goal.returns
returns c = ap₂ (λ n l. n * 4294967296 + l) c.number.ensures c.length.ensures
