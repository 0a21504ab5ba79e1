-- The proof of tquery::interface::tquery_run, by answers to its goals.
use Rattle.spec_run.specs.Run.{call}
use Rattle.spec_run.proofs.RunLaws.{run_short}
use Rattle.spec_run.specs.AnswerLaws.{run_by, by_run}
use Rattle.tquery.specs.InterfaceLaws.{answered_short, answered_one}
use Rattle.tquery.proofs.interface.tquery_run.Goals as goal

pub packed-requires : goal.packed-requires
packed-requires c =
    answered_short (run_short (call c.args.query.now c.args.input.now c.args.joined.now c.args.work.now c.args.res.now
    c.args.positions.now)) (run_by c.run.ensures)

pub returns : goal.returns
returns c =
    by_run (answered_one (run_short (call c.args.query.now c.args.input.now c.args.joined.now c.args.work.now
    c.args.res.now c.args.positions.now)) (run_by c.run.ensures) c.packed.ensures) c.run.ensures.positions_is
