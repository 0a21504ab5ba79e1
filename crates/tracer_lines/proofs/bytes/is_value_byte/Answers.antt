-- The proof of tracer_lines::bytes::is_value_byte, by answers to its goals.
use Rattle.std.proofs.Common.{arith, ◌≤◌, ◌∙◌, ap, sym}
use Rattle.std.proofs.Math.Bool.{not}
use Rattle.std.proofs.lemmas.Grind.{common_steps}
use borrow.Author.Tests.{ne_eqb}
use Rattle.tracer_lines.specs.PieceLaws.{value_low, value_high, value_between}
use Rattle.tracer_lines.proofs.bytes.is_value_byte.Goals as goal

pub returns-in-32-to-126 : goal.returns-in-32-to-126
returns-in-32-to-126 c =
    let lo : 32 ≤ c.args.byte = grind (arith, common_steps) in
    let hi : c.args.byte ≤ 126 = grind (arith, common_steps) in
    ap not (sym (ne_eqb c.args.byte 59 c.if-byte-ne-SEMICOLON.true)) ∙ value_between c.args.byte lo hi

pub returns-in_default : goal.returns-in_default
returns-in_default c = grind (arith, common_steps, value_low, value_high)

pub returns-in_default-2 : goal.returns-in_default-2
returns-in_default-2 c = grind (arith, common_steps, value_low, value_high)

pub returns-else-byte-ne-SEMICOLON : goal.returns-else-byte-ne-SEMICOLON
returns-else-byte-ne-SEMICOLON c =
    value_between c.args.byte (omega (arith, c.if-byte-ne-SEMICOLON.false)) (omega (arith, c.if-byte-ne-SEMICOLON.false))
