-- The proof of checks::check::check_arrays, by answers to its goals.
use Rattle.std.proofs.Common.{sym, ◌∙◌, ap}
use Rattle.checks.specs.Check.{decided}
use Rattle.checks.specs.CheckLaws.{refusal_on, arrays_first, arrays_second}
use Rattle.checks.proofs.check.check_arrays.Goals as goal

pub returns-in_err-decide : goal.returns-in_err-decide
returns-in_err-decide c =
    rw (refusal_on c.from_residual.result c.from_residual.ensures.1) (sym c.in_err-decide.was ∙ arrays_first c.args.first.now c.args.second.now c.args.long c.args.malformed (c.decide.ensures ∙ ap (λ x. decided
    x _ _) c.check_array.ensures) c.in_err-decide.was)

pub returns : goal.returns
returns c =
    arrays_second c.args.first.now c.args.second.now c.args.long c.args.malformed (c.decide.ensures ∙ ap (λ x. decided
    x _ _) c.check_array.ensures) c.in_ok-decide.was (c.decide-2.ensures ∙ ap (λ x. decided x c.args.long c.args.malformed)
    c.check_array-2.ensures)
