-- `head::spanning_at`: by the head that stands there, and whether it ends at `end`.
use Rattle.std.proofs.Common.{sym, ◌∙◌}
use Rattle.format.specs.HeadLaws.{span_field, span_trailing, span_nothing}
use Rattle.format.proofs.head.spanning_at.Goals as goal

pub returns-then-to-end : goal.returns-then-to-end
returns-then-to-end c =
    sym (span_field c.args.area.now c.args.at c.args.end _ _ _ (sym c.head_at.ensures ∙ c.in_ok-field.was)
    c.if-to-end.true)

pub returns-else-to-end : goal.returns-else-to-end
returns-else-to-end c =
    sym (span_trailing c.args.area.now c.args.at c.args.end _ _ _ (sym c.head_at.ensures ∙ c.in_ok-field.was)
    c.if-to-end.false)

pub returns-in_err-field : goal.returns-in_err-field
returns-in_err-field c =
    rw c.from_residual.ensures (sym (span_nothing c.args.area.now c.args.at c.args.end (sym c.head_at.ensures ∙ c.in_err-field.was)))
