-- The proof of tracer_lines::bytes::is_name_byte, by answers to its goals.
use Rattle.std.proofs.Common.{sym, ◌∙◌}
use Rattle.tracer_lines.specs.PieceLaws.{name_capital, name_digit}
use Rattle.tracer_lines.proofs.bytes.is_name_byte.Goals as goal

pub returns-then-is_capital : goal.returns-then-is_capital
returns-then-is_capital c =
    c.if-is_capital.true ∙ name_capital c.args.byte ((sym c.is_capital.ensures) ∙ c.if-is_capital.true)

pub returns-else-is_capital : goal.returns-else-is_capital
returns-else-is_capital c =
    c.is_digit.ensures ∙ name_digit c.args.byte ((sym c.is_capital.ensures) ∙ c.if-is_capital.false)
