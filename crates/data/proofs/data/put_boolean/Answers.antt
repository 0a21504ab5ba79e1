-- The proof of data::data::put_boolean: the constants' bytes are those of the trees.
use Rattle.data.specs.WriteDataLaws.{put_true, put_false}
use Rattle.data.proofs.data.put_boolean.Goals as goal

pub returns-then-yes : goal.returns-then-yes
returns-then-yes c = put_true c.if-yes.true c.copy_in.ensures

pub returns : goal.returns
returns c = put_false c.if-yes.false c.copy_in-2.ensures
