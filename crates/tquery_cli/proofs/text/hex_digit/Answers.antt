-- The proof of tquery_cli::text::hex_digit, by answers to its goals.
use Rattle.std.proofs.Common.{lt-ltb, le-ltb}
use Rattle.spec_run.specs.Program.{digit}
use Rattle.tquery_cli.proofs.text.hex_digit.Goals as goal

pub returns-then-value-lt10 : goal.returns-then-value-lt10
unfolding digit
returns-then-value-lt10 c = simp (lt-ltb _ _ c.if-value-lt10.true)

pub returns : goal.returns
unfolding digit
returns c = simp (le-ltb _ _ c.if-value-lt10.false)
