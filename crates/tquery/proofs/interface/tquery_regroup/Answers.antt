-- The proof of tquery::interface::tquery_regroup, by answers to its goals.
use Rattle.spec_run.specs.Regroup.{regroup_call}
use Rattle.spec_run.proofs.RegroupLaws.{regroup_short}
use Rattle.spec_run.specs.AnswerLaws.{regroup_by, by_regroup}
use Rattle.tquery.specs.InterfaceLaws.{answered_short, answered_one}
use Rattle.tquery.proofs.interface.tquery_regroup.Goals as goal

pub packed-requires : goal.packed-requires
packed-requires c =
    answered_short (regroup_short (regroup_call c.args.query.now c.args.first.now c.args.second.now c.args.work.now
    c.args.res.now)) (regroup_by c.regroup.ensures)

pub returns : goal.returns
returns c =
    by_regroup (answered_one (regroup_short (regroup_call c.args.query.now c.args.first.now c.args.second.now
    c.args.work.now c.args.res.now)) (regroup_by c.regroup.ensures) c.packed.ensures)
