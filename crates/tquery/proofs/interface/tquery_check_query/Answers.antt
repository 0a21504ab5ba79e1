-- The proof of tquery::interface::tquery_check_query, by answers to its goals.
use Rattle.std.proofs.Common.{arith}
use Rattle.spec_queries.specs.Decode.{read_query}
use Rattle.spec_run.specs.declared.answer.Refusal.TheVariants.{QueryLong, QueryMalformed}
use Rattle.spec_run.specs.Run.{checked_query}
use Rattle.tquery.specs.InterfaceLaws.{check_most, check_is}
use Rattle.tquery.proofs.interface.tquery_check_query.Goals as goal

pub overflow_mul-result : goal.overflow_mul-result
overflow_mul-result c =
    omega (
      arith,
      check_most (read_query c.args.bytes.now) QueryLong QueryMalformed c.check_query-c.ensures
          c.check_number.ensures (λ z. omega arith) (λ z. omega arith),
    )

pub returns : goal.returns
unfolding checked_query
returns c =
    check_is (read_query c.args.bytes.now) QueryLong QueryMalformed c.check_query-c.ensures c.check_number.ensures
