-- The proof of data::data::write_literal, by answers to its goals.
use Rattle.data.specs.WriteDataLaws.{gives_array}
use Rattle.data.specs.ValueLaws.{large_on, value_ok, value_err}
use Rattle.data.proofs.data.write_literal.Goals as goal

pub returns : goal.returns
returns c = gives_array (value_ok c.in_ok-end.was) c.copy_in.ensures

pub returns-in_err-end : goal.returns-in_err-end
returns-in_err-end c =
    rw (large_on _ c.from_residual.result c.from_residual.ensures.1) (gives_array (value_err c.in_err-end.was) c.copy_in.ensures)
