-- The proof of finish::finish::refuse, by answers to its goals.
use Rattle.std.proofs.Common.{refl, sym, ◌∙◌}
use Rattle.finish.proofs.finish.refuse.Goals as goal

pub returns-then-keeps_work : goal.returns-then-keeps_work
returns-then-keeps_work c = (refl, rw (sym c.keeps_work.ensures ∙ c.if-keeps_work.true) refl)

pub returns : goal.returns
returns c = (refl, rw (sym c.keeps_work.ensures ∙ c.if-keeps_work.false) c.clear.ensures)
