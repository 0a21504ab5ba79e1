-- The proof of tracer_tree::number::both_digits, by answers to its goals.
use Rattle.std.proofs.Common.{sym, ap, ap₂, ◌∙◌, ◌+◌, ◌*◌, Some}
use Rattle.tracer_tree.specs.Number.{amount_of}
use Rattle.tracer_tree.specs.NumberLaws.{parts_first, parts_second, parts_two}
use Rattle.tracer_tree.proofs.number.both_digits.Goals.{then-not-is_digit-via-then-not-is_digit, then-not-is_digit-via-else-not-is_digit+then-not-is_digit-2}
use Rattle.tracer_tree.proofs.number.both_digits.Goals as goal

pub returns-then-not-is_digit : goal.returns-then-not-is_digit
returns-then-not-is_digit c = elim c.then-not-is_digit.branch [
  | then-not-is_digit-via-then-not-is_digit w ↦ sym (ap amount_of (parts_first c.args.first c.args.second (sym w.if-not-is_digit.ensures)))
  | then-not-is_digit-via-else-not-is_digit+then-not-is_digit-2 w ↦ sym (ap amount_of (parts_second c.args.first c.args.second (sym w.if-not-is_digit.ensures) (sym w.if-not-is_digit-2.ensures)))
]

pub returns : goal.returns
returns c =
    ap₂ (λ m n. Some (m * 10 + n)) c.digit_value.ensures.0 c.digit_value-2.ensures.0
    ∙ sym (ap amount_of (parts_two c.args.first c.args.second (sym c.if-not-is_digit.ensures) (sym c.if-not-is_digit-2.ensures)))
