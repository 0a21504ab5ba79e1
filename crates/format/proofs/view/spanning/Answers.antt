-- `view::spanning`: all the bytes are within the slice.
use Rattle.std.proofs.Common.{arith, ◌∙◌, length, le-leb}
use Rattle.format.proofs.view.spanning.Goals as goal

pub returns : goal.returns
returns c = c.view_head.ensures ∙ simp (le-leb (length c.args.area.now) (length c.args.area.now) (omega arith))
