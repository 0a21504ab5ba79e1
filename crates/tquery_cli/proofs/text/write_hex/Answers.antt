-- The proof of tquery_cli::text::write_hex, by answers to its goals: the text of the first i bytes is written.
use Rattle.std.proofs.Common.{◌≡◌, refl, arith, length, length-set}
use Rattle.tquery_cli.specs.TextLaws.{digits_more, digits_end}
use Rattle.tquery_cli.proofs.text.write_hex.Goals as goal

pub loop-i-init : goal.loop-i-init
loop-i-init c = (omega arith, c.requires, refl, refl)

pub hex_digit-requires : goal.hex_digit-requires
hex_digit-requires c = omega (arith, c.row_known-1.given)

pub hex_digit-requires-in-loop-i : goal.hex_digit-requires-in-loop-i
hex_digit-requires-in-loop-i c = omega (arith, c.row_known-1.given)

pub bounds-text-i-in-loop-i : goal.bounds-text-i-in-loop-i
bounds-text-i-in-loop-i c = simp length-set (omega (arith, c.loop-i.invariant.1))

pub loop-i-preserved : goal.loop-i-preserved
loop-i-preserved c = (
  omega arith,
  simp length-set c.loop-i.invariant.1,
  simp length-set c.loop-i.invariant.2,
  digits_more c.loop-i.text
      c.args.bytes.now c.loop-i.i _ _ (omega arith) c.loop-i.invariant.1 c.hex_digit.ensures c.hex_digit-in-loop-i.ensures
      c.loop-i.invariant.3,
)

pub shape_of-text : goal.shape_of-text
shape_of-text c = simp length-set c.loop-i.invariant.2

pub returns : goal.returns
returns c =
    let all : c.loop-i.i ≡ length c.args.bytes.now = omega arith in
    rw (← all) (digits_end c.loop-i.text c.args.bytes.now c.loop-i.i all c.loop-i.invariant.1 c.loop-i.invariant.3)
