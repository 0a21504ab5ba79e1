-- The proof of engine::answer::check_number, by answers to its goals.
use Rattle.std.proofs.Common.{Err, sym, ap, ◌∙◌}
use Rattle.checks.specs.Check.{checked_as}
use Rattle.engine.proofs.answer.check_number.Goals as goal

pub returns-in-Ok : goal.returns-in-Ok
returns-in-Ok c = sym (ap (λ x. checked_as x c.args.long c.args.malformed) c.in-Ok.is)

pub returns-in-Overlong : goal.returns-in-Overlong
returns-in-Overlong c =
    c.refusal_number.ensures ∙ sym (ap (λ x. checked_as x c.args.long c.args.malformed) (c.in-Err.is ∙ ap Err
    c.in-Overlong.is))

pub returns-in-Malformed : goal.returns-in-Malformed
returns-in-Malformed c =
    c.refusal_number-in-Malformed.ensures ∙ sym (ap (λ x. checked_as x c.args.long c.args.malformed) (c.in-Err.is ∙ ap
    Err c.in-Malformed.is))
