-- The proof of tquery_cli::text::write_refused, by answers to its goals.
use Rattle.std.proofs.Common.{◌∙◌, arith, length-set}
use Rattle.tquery_cli.specs.TextLaws.{refusal_end}
use Rattle.tquery_cli.proofs.text.write_refused.Goals as goal

pub shape_of-text : goal.shape_of-text
shape_of-text c = simp length-set (c.write_decimal-e.auto.text ∙ c.emit.auto.res)

pub returns : goal.returns
returns c =
    refusal_end c.args.number c.requires.0 c.emit.ensures c.write_decimal-e.ensures.0 (omega (
      arith,
      c.write_decimal-e.auto.text,
      c.emit.auto.res,
    ))
