-- The proof of areas::area::emit, by answers to its goals: what copy_in did in the lent tail, said of the whole.
use Rattle.std.specs.Prelude.{Ok}
use Rattle.std.proofs.Common.{arith}
use Rattle.areas.specs.AreaLaws.{wrote_tail}
use Rattle.areas.proofs.area.emit.Goals as goal

pub overflow_add-result : goal.overflow_add-result
overflow_add-result c = omega (arith, (c.copy_in.ensures.fits c.in_ok-n.n c.in_ok-n.was).room)

pub returns : goal.returns
returns c =
    wrote_tail c.args.res.now c.copy_in.new.work c.args.at c.requires (Ok c.in_ok-n.n) c.in_ok-n.was c.copy_in.ensures
