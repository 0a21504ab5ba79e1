-- The proof of tracer_tree::number::tenths, by answers to its goals.
use Rattle.std.proofs.Common.{sym, ap, ◌∙◌, ◌*◌, Some}
use Rattle.tracer_tree.specs.Number.{amount_of}
use Rattle.tracer_tree.specs.NumberLaws.{parts_one, parts_no}
use Rattle.tracer_tree.proofs.number.tenths.Goals as goal

pub returns-then-not-is_digit : goal.returns-then-not-is_digit
returns-then-not-is_digit c = sym (ap amount_of (parts_no c.args.first (sym c.if-not-is_digit.ensures)))

pub returns : goal.returns
returns c = ap (λ n. Some (n * 10)) c.digit_value.ensures.0 ∙ sym (ap amount_of (parts_one c.args.first (sym c.if-not-is_digit.ensures)))
