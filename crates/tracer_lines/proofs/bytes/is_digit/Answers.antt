-- The proof of tracer_lines::bytes::is_digit, by answers to its goals.
use Rattle.spec_tracer.specs.Message.{is_digit}
use Rattle.tracer_lines.proofs.bytes.is_digit.Goals as goal

pub returns : goal.returns
unfolding is_digit
returns c = c.is_ascii_digit.ensures.value
