-- The proof of tracer_lines::bytes::is_capital, by answers to its goals.
use Rattle.spec_tracer.specs.Message.{is_capital}
use Rattle.tracer_lines.proofs.bytes.is_capital.Goals as goal

pub returns : goal.returns
unfolding is_capital
returns c = c.is_ascii_uppercase.ensures.value
