-- The proof of regrouping::joined_group::joined_group, by answers to its goals.
use Rattle.std.proofs.Common.{refl, arith}
use Rattle.stretches.specs.LaterLaws.{failure_on}
use Rattle.regrouping.specs.JoinedGroupLaws.{head_inside, joined_long, joined_above, joined_standing, again_ready, again_overflow, again_ended, pairs_fit}
use Rattle.regrouping.proofs.joined_group.joined_group.Goals as goal

pub join-requires : goal.join-requires
join-requires c = (
  head_inside _ c.requires.first c.requires.first_is,
  head_inside _ c.requires.second c.requires.second_is,
  omega
      (arith, c.requires.size),
  omega (arith, c.requires.size),
)

pub returns-in_default : goal.returns-in_default
returns-in_default c = joined_long c.join.ensures c.in_default.is

pub overflow_sub-len : goal.overflow_sub-len
overflow_sub-len c =
    omega (arith, joined_above c.join.ensures c.in-Ok.is c.requires refl c.join.auto.work)

pub number-requires : goal.number-requires
number-requires c = joined_standing c.join.ensures c.in-Ok.is c.requires refl c.join.auto.work

pub write_again-again-requires : goal.write_again-again-requires
write_again-again-requires c = pairs_fit _ refl c.requires

pub next_stretch-requires : goal.next_stretch-requires
next_stretch-requires c =
    again_ready c.join.ensures c.in-Ok.is c.requires refl c.join.auto.work c.number.auto.work
    c.number.ensures c.write_again-again.ensures _ refl

pub returns-in_err-left : goal.returns-in_err-left
returns-in_err-left c =
    rw (failure_on c.from_residual.result c.from_residual.ensures.1) (again_overflow c.join.ensures c.in-Ok.is c.requires refl c.join.auto.work c.number.auto.work
    c.number.ensures c.write_again-again.ensures _ refl c.next_stretch.ensures c.in_err-left.was)

pub returns : goal.returns
returns c =
    again_ended c.join.ensures c.in-Ok.is c.requires refl c.join.auto.work c.number.auto.work
    c.number.ensures c.write_again-again.ensures _ refl c.next_stretch.ensures c.in_ok-left.was c.last.ensures
