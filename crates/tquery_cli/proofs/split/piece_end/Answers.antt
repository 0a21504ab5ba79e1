-- The proof of tquery_cli::split::piece_end, by answers to its goals.
use Rattle.std.proofs.Common.{arith}
use Rattle.tquery_cli.specs.SplitLaws.{piece_short, piece_inside, piece_over}
use Rattle.tquery_cli.proofs.split.piece_end.Goals as goal

pub returns-then-input-from : goal.returns-then-input-from
returns-then-input-from c = piece_short c.args.input.now c.args.from c.requires.0 c.if-input-from.true

pub returns-then-e-input : goal.returns-then-e-input
returns-then-e-input c =
    piece_inside c.args.input.now c.args.from _ c.if-input-from.false (omega (
      arith,
      c.wide.ensures.0,
      c.wide-2.ensures.0,
    )) c.if-e-input.true

pub returns : goal.returns
returns c =
    piece_over c.args.input.now c.args.from _ c.if-input-from.false (omega (
      arith,
      c.wide.ensures.0,
      c.wide-2.ensures.0,
    )) c.if-e-input.false
