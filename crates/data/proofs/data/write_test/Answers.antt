-- The proof of data::data::write_test, by answers to its goals.
use Rattle.data.specs.WriteDataLaws.{gives_tested}
use Rattle.data.specs.ValueLaws.{large_on, value_ok, value_err}
use Rattle.data.proofs.data.write_test.Goals as goal

pub holds-yes-requires : goal.holds-yes-requires
holds-yes-requires c = record { criterion = c.requires.asked; tree = c.requires.tree }

pub put_boolean-requires : goal.put_boolean-requires
put_boolean-requires c = (c.requires.room, c.requires.area)

pub returns : goal.returns
returns c = gives_tested c.args.left (value_ok c.in_ok-end.was) c.holds-yes.ensures c.put_boolean.ensures

pub returns-in_err-end : goal.returns-in_err-end
returns-in_err-end c =
    rw (large_on _ c.from_residual.result c.from_residual.ensures.1) (gives_tested c.args.left (value_err c.in_err-end.was) c.holds-yes.ensures c.put_boolean.ensures)
