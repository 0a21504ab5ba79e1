-- The proof of tquery_cli::respond::read_part, by answers to its goals.
use Rattle.std.proofs.Common.{sym, arith, length-take-le, take_all}
use Rattle.spec_run.specs.Program.{program_max}
use Rattle.tquery_cli.proofs.respond.read_part.Goals as goal

pub slice_bounds-result-end : goal.slice_bounds-result-end
slice_bounds-result-end c = sym (length-take-le program_max c.args.input.now (omega (arith, c.if-input-gt-READ.true)))

pub returns-else-input-gt-READ : goal.returns-else-input-gt-READ
returns-else-input-gt-READ c = sym (take_all program_max c.args.input.now (omega (arith, c.if-input-gt-READ.false)))
