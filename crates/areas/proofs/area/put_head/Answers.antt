-- The proof of areas::area::put_head, by answers to its goals.
use Rattle.std.proofs.Common.{arith, ◌+◌, ◌-◌}
use Rattle.areas.specs.NumberLaws.{head_stored}
use Rattle.areas.proofs.area.put_head.Goals as goal

pub returns : goal.returns
returns c = head_stored c.args.at c.args.tag (c.args.end - (c.args.at + 3)) (omega arith) c.put_two.ensures
