-- The proof of finish::finish::finish, by answers to its goals.
use Rattle.finish.specs.FinishLaws.{held_accept, held_finish, failed_finish}
use Rattle.finish.proofs.finish.finish.Goals as goal

pub accept-requires : goal.accept-requires
accept-requires c = held_accept c.requires c.in-Ok.is

pub returns-in-Ok : goal.returns-in-Ok
returns-in-Ok c = held_finish c.args.res.now c.in-Ok.is c.accept.ensures

pub returns-in-Err : goal.returns-in-Err
returns-in-Err c = failed_finish c.args.res.now c.in-Err.is c.from.ensures c.fail.ensures
