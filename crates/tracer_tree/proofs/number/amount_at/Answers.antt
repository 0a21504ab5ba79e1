-- The proof of tracer_tree::number::amount_at, by answers to its goals.
use Rattle.std.proofs.Common.{arith, sym, ap, ◌∙◌, ◌+◌, ◌*◌, Some, inl, inr}
use Rattle.spec_tracer.specs.Message.{is_digit}
use Rattle.tracer_lines.specs.PieceLaws.{piece_above, piece_inside}
use Rattle.tracer_tree.specs.Number.{amount_of}
use Rattle.tracer_tree.specs.NumberLaws.{amount_digitless, amount_long, digits_at, amount_none, amount_small, amount_answer}
use Rattle.tracer_tree.proofs.number.amount_at.Goals as goal

pub overflow_sub-count : goal.overflow_sub-count
overflow_sub-count c = piece_above is_digit c.args.value.now c.args.from c.requires c.digits_end-end.ensures

pub returns-then-count-eq0 : goal.returns-then-count-eq0
returns-then-count-eq0 c = elim c.then-count-eq0.either [
  | inl q ↦ sym (ap amount_of (amount_digitless c.args.value.now c.args.from c.requires c.digits_end-end.ensures q))
  | inr q ↦ sym (ap amount_of (amount_long c.args.value.now c.args.from c.requires c.digits_end-end.ensures q.1))
]

pub slice_bounds-fraction-count : goal.slice_bounds-fraction-count
slice_bounds-fraction-count c = piece_inside is_digit c.args.value.now c.args.from c.requires c.digits_end-end.ensures

pub slice_bounds-fraction-start : goal.slice_bounds-fraction-start
slice_bounds-fraction-start c = piece_inside is_digit c.args.value.now c.args.from c.requires c.digits_end-end.ensures

pub returns-in_err-hundredths : goal.returns-in_err-hundredths
returns-in_err-hundredths c = c.from_residual.ensures ∙ amount_none c.args.value.now c.args.from c.requires c.digits_end-end.ensures c.if-count-eq0.false c.if-count-gt-WHOLE.false c.fraction.ensures c.in_err-hundredths.was

pub slice_bounds-whole-end : goal.slice_bounds-whole-end
slice_bounds-whole-end c = piece_inside is_digit c.args.value.now c.args.from c.requires c.digits_end-end.ensures

pub whole-requires : goal.whole-requires
whole-requires c = digits_at c.args.value.now c.args.from c.requires c.digits_end-end.ensures c.if-count-eq0.false c.if-count-gt-WHOLE.false

pub overflow_mul-result : goal.overflow_mul-result
overflow_mul-result c = omega (arith, amount_small c.args.value.now c.args.from c.requires c.digits_end-end.ensures c.if-count-eq0.false c.if-count-gt-WHOLE.false c.fraction.ensures c.in_ok-hundredths.was, c.whole.ensures)

pub overflow_add-result : goal.overflow_add-result
overflow_add-result c = omega (arith, amount_small c.args.value.now c.args.from c.requires c.digits_end-end.ensures c.if-count-eq0.false c.if-count-gt-WHOLE.false c.fraction.ensures c.in_ok-hundredths.was, c.whole.ensures)

pub returns : goal.returns
returns c = ap (λ n. Some (n * 100 + c.in_ok-hundredths.hundredths)) c.whole.ensures ∙ amount_answer c.args.value.now c.args.from c.requires c.digits_end-end.ensures c.if-count-eq0.false c.if-count-gt-WHOLE.false c.fraction.ensures c.in_ok-hundredths.was
