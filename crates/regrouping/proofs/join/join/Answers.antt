-- The proof of regrouping::join::join, by answers to its goals.
use Rattle.std.proofs.Common.{arith}
use Rattle.regrouping.specs.JoinLaws.{join_fails, join_ends, join_both}
use Rattle.regrouping.proofs.join.join.Goals as goal
use Rattle.areas.specs.AreaLaws.{handed_on}

pub overflow_add-stop : goal.overflow_add-stop
overflow_add-stop c = omega (arith, c.requires)

pub copy_in-requires : goal.copy_in-requires
copy_in-requires c = (omega arith, c.requires.2)

pub returns-in_err-m : goal.returns-in_err-m
returns-in_err-m c =
    rw (handed_on _ c.from_residual.result c.from_residual.ensures.1) (join_fails c.args.first.now c.copy_in.ensures c.args.second.now c.in_err-m.was)

pub copy_in-requires-2 : goal.copy_in-requires-2
copy_in-requires-2 c =
    (join_ends c.args.first.now c.copy_in.ensures c.in_ok-m.was, omega (arith, c.requires.2, c.copy_in.auto.work))

pub returns : goal.returns
returns c =
    join_both c.args.first.now c.copy_in.ensures c.args.second.now (omega (arith, c.requires.2)) c.in_ok-m.was
    c.copy_in-2.ensures
