-- The proof of areas::area::finish, by answers to its goals.
use Rattle.areas.specs.AreaLaws.{finish_at, finish_fail, handed_on}
use Rattle.areas.proofs.area.finish.Goals as goal

pub returns-in_err-end : goal.returns-in_err-end
returns-in_err-end c = rw (handed_on _ c.from_residual.result c.from_residual.ensures.1) (finish_fail c.args.work.now c.args.at c.args.tag c.in_err-end.was)

pub returns : goal.returns
returns c =
    finish_at c.args.work.now c.args.at c.args.tag (c.requires.0 c.in_ok-end.end c.in_ok-end.was).0 (c.requires.0 c.in_ok-end.end
    c.in_ok-end.was).1 c.in_ok-end.was c.put_head.ensures
