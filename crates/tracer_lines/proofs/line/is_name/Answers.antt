-- The proof of tracer_lines::line::is_name, by answers to its goals.
use Rattle.std.proofs.Common.{arith}
use Rattle.std.proofs.lemmas.Grind.{common_steps}
use Rattle.tracer_lines.specs.Line.{is_name_at}
use Rattle.tracer_lines.specs.LineLaws.{name_none, name_over, name_begins}
use Rattle.tracer_lines.proofs.line.is_name.Goals as goal

pub returns-then-to-from-le-NAME : goal.returns-then-to-from-le-NAME
unfolding is_name_at
returns-then-to-from-le-NAME c = grind (arith, common_steps, name_begins)

pub returns-else-to-from-le-NAME : goal.returns-else-to-from-le-NAME
unfolding is_name_at
returns-else-to-from-le-NAME c = grind (arith, common_steps, name_none, name_over)
