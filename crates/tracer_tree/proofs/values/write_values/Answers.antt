-- The proof of tracer_tree::values::write_values, by answers to its goals.
use Rattle.std.proofs.Common.{List, ℕ, true, length, arith, sym, ◌≡◌, ◌∙◌, ◌+◌, ◌≤◌}
use Rattle.spec_tracer.specs.Message.{semicolon, is_value_byte}
use Rattle.tracer_lines.specs.Piece.{stands_at}
use Rattle.tracer_lines.specs.PieceLaws.{piece_above, piece_inside}
use Rattle.tracer_lines.specs.LineLaws.{stands_inside}
use Rattle.tracer_tree.specs.ValuesLaws.{wrote_one, wrote_two, wrote_not}
use Rattle.tracer_tree.proofs.values.write_values.Goals as goal
use Rattle.areas.specs.AreaLaws.{handed_on}

-- where a semicolon stands, the second value begins within the message
after_semicolon : (m : List ℕ) (at : ℕ) → stands_at m at semicolon ≡ true → at + 1 ≤ length m
after_semicolon m at e = omega (arith, stands_inside m at semicolon e)

pub slice_bounds-write_value-count : goal.slice_bounds-write_value-count
slice_bounds-write_value-count c =
    piece_above is_value_byte c.args.message.now c.args.from c.requires.0 c.value_end-first.ensures

pub slice_bounds-write_value-start : goal.slice_bounds-write_value-start
slice_bounds-write_value-start c =
    piece_above is_value_byte c.args.message.now c.args.from c.requires.0 c.value_end-first.ensures

pub slice_bounds-write_value-end : goal.slice_bounds-write_value-end
slice_bounds-write_value-end c =
    piece_inside is_value_byte c.args.message.now c.args.from c.requires.0 c.value_end-first.ensures

pub returns-then-not-stands : goal.returns-then-not-stands
returns-then-not-stands c =
    wrote_one c.args.message.now c.args.from c.requires.0 c.value_end-first.ensures c.args.label
    c.write_value-written.ensures (sym c.stands.ensures ∙ c.if-not-stands.true)

pub returns-in_err-at : goal.returns-in_err-at
returns-in_err-at c =
    rw (handed_on _ c.from_residual.result c.from_residual.ensures.1) (wrote_not c.args.message.now c.args.from c.requires.0 c.value_end-first.ensures c.args.label
    c.write_value-written.ensures (sym c.stands.ensures ∙ c.if-not-stands.false)
    c.in_err-at.was)

pub value_end-second-requires : goal.value_end-second-requires
value_end-second-requires c = after_semicolon c.args.message.now c.value_end-first.result (sym c.stands.ensures ∙ c.if-not-stands.false)

pub slice_bounds-write_value-count-2 : goal.slice_bounds-write_value-count-2
slice_bounds-write_value-count-2 c =
    piece_above is_value_byte c.args.message.now _ (after_semicolon c.args.message.now c.value_end-first.result (sym c.stands.ensures ∙ c.if-not-stands.false))
    c.value_end-second.ensures

pub slice_bounds-write_value-start-2 : goal.slice_bounds-write_value-start-2
slice_bounds-write_value-start-2 c =
    piece_above is_value_byte c.args.message.now _ (after_semicolon c.args.message.now c.value_end-first.result (sym c.stands.ensures ∙ c.if-not-stands.false))
    c.value_end-second.ensures

pub slice_bounds-write_value-end-2 : goal.slice_bounds-write_value-end-2
slice_bounds-write_value-end-2 c =
    piece_inside is_value_byte c.args.message.now _ (after_semicolon c.args.message.now c.value_end-first.result (sym c.stands.ensures ∙ c.if-not-stands.false))
    c.value_end-second.ensures

pub write_value-requires : goal.write_value-requires
write_value-requires c = (
  omega (arith, (c.write_value-written.ensures.fits c.in_ok-at.at c.in_ok-at.was).room),
  omega (
    arith,
    c.requires,
    c.write_value-written.auto.out,
  ),
  omega (arith, c.requires, c.write_value-written.auto.out),
)

pub returns : goal.returns
returns c =
    wrote_two c.args.message.now c.args.from c.requires.0 c.value_end-first.ensures c.args.label
    c.write_value-written.ensures (sym c.stands.ensures ∙ c.if-not-stands.false)
    c.value_end-second.ensures (omega (arith, c.requires)) c.in_ok-at.was c.write_value.ensures
