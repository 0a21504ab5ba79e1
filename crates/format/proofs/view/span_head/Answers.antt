-- `view::span_head`: the part is tested, and then read.
use Rattle.std.proofs.Common.{◌∙◌, le-leb}
use borrow.Author.Tests.{lt-leb}
use Rattle.format.proofs.view.span_head.Goals as goal

pub returns-then-span-area : goal.returns-then-span-area
returns-then-span-area c = c.spanning_at.ensures ∙ simp (le-leb _ _ c.if-span-area.true)

pub returns-else-span-area : goal.returns-else-span-area
returns-else-span-area c = simp (lt-leb _ _ c.if-span-area.false)
