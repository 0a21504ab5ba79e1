-- The proof of tquery::interface::tquery_check_array, by answers to its goals.
use Rattle.std.proofs.Common.{arith}
use Rattle.spec_trees.specs.Decode.{read_array}
use Rattle.spec_run.specs.declared.answer.Refusal.TheVariants.{InputLong, InputMalformed}
use Rattle.spec_run.specs.Run.{checked_array}
use Rattle.tquery.specs.InterfaceLaws.{check_most, check_is}
use Rattle.tquery.proofs.interface.tquery_check_array.Goals as goal

pub overflow_mul-result : goal.overflow_mul-result
overflow_mul-result c =
    omega (
      arith,
      check_most (read_array c.args.bytes.now) InputLong InputMalformed c.check_array-c.ensures
          c.check_number.ensures (λ z. omega arith) (λ z. omega arith),
    )

pub returns : goal.returns
unfolding checked_array
returns c =
    check_is (read_array c.args.bytes.now) InputLong InputMalformed c.check_array-c.ensures c.check_number.ensures
