-- The proof of engine::regroup::perform_again, by answers to its goals.
use Rattle.engine.specs.RegroupLaws.{again_finish, again_perform}
use Rattle.engine.proofs.regroup.perform_again.Goals as goal

pub finish-requires : goal.finish-requires
finish-requires c = again_finish c.joined_group-ended.ensures c.requires

pub returns : goal.returns
returns c = again_perform c.joined_group-ended.ensures c.args.res.now c.finish.ensures
