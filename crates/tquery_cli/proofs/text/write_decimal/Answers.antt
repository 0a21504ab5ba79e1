-- The proof of tquery_cli::text::write_decimal, by answers to its goals.
use Rattle.std.proofs.Common.{arith, length-set}
use Rattle.tquery_cli.specs.TextLaws.{one_digit, two_digits}
use Rattle.tquery_cli.proofs.text.write_decimal.Goals as goal

pub returns-then-number-lt10 : goal.returns-then-number-lt10
returns-then-number-lt10 c =
    (one_digit c.args.text.now c.args.at c.args.number c.requires.0 c.if-number-lt10.true, omega arith)

pub bounds-text-at-3 : goal.bounds-text-at-3
bounds-text-at-3 c = simp length-set (omega arith)

pub returns : goal.returns
returns c = (two_digits c.args.text.now c.args.at c.args.number c.requires.0 c.if-number-lt10.false, omega arith)
