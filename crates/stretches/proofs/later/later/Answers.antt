-- The proof of stretches::later::later, by answers to its goals: what the stretches that are left come to is what all
-- come to.
use Rattle.std.proofs.Common.{refl, ◌∙◌, arith}
use Rattle.stretches.specs.LaterLaws.{failure_on, later_last, later_large, later_places, later_long, later_held, later_overflow, later_ready, later_next}
use Rattle.stretches.proofs.later.later.Goals as goal

pub loop-at-init : goal.loop-at-init
loop-at-init c = record { same = refl; ready = c.requires; whole = λ h. h }

pub next_group-requires : goal.next_group-requires
next_group-requires c =
    record { value = c.loop-at.invariant.ready.list; value_is = c.loop-at.invariant.ready.planned.stages_is }

pub shape_of-work-in_default : goal.shape_of-work-in_default
shape_of-work-in_default c = c.loop-at.invariant.same

pub returns-in_default : goal.returns-in_default
returns-in_default c =
    c.loop-at.invariant.whole (later_last c.next_group.ensures c.loop-at.work c.loop-at.held c.last.result
    c.in_default.is c.last.ensures)

pub next_stretch-requires : goal.next_stretch-requires
next_stretch-requires c =
    later_held c.next_group.ensures c.in-Some.is c.in-Len.is c.loop-at.invariant.ready

pub shape_of-work-in_err-held-in-Len : goal.shape_of-work-in_err-held-in-Len
shape_of-work-in_err-held-in-Len c = c.next_stretch.auto.work ∙ c.loop-at.invariant.same

pub returns-in_err-held-in-Len : goal.returns-in_err-held-in-Len
returns-in_err-held-in-Len c =
    rw (failure_on c.from_residual.result c.from_residual.ensures.1) (c.loop-at.invariant.whole (later_overflow c.next_group.ensures c.in-Some.is c.in-Len.is
    c.loop-at.invariant.ready c.next_stretch.auto.work c.next_stretch.ensures c.in_err-held-in-Len.was))

pub loop-at-smaller : goal.loop-at-smaller
loop-at-smaller c =
    omega (
      arith,
      later_places c.next_group.ensures c.in-Some.is c.loop-at.invariant.ready.list
          c.loop-at.invariant.ready.joined c.loop-at.invariant.ready.planned,
    )

pub loop-at-preserved : goal.loop-at-preserved
loop-at-preserved c =
    record {
      same = c.next_stretch.auto.work ∙ c.loop-at.invariant.same;
      ready = later_ready
          c.next_group.ensures c.in-Some.is c.in-Len.is c.loop-at.invariant.ready c.next_stretch.auto.work
          c.next_stretch.ensures c.in_ok-held-in-Len.was;
      whole = λ h. c.loop-at.invariant.whole (later_next
          c.next_group.ensures c.in-Some.is c.in-Len.is c.loop-at.invariant.ready c.next_stretch.auto.work
          c.next_stretch.ensures c.in_ok-held-in-Len.was h);
    }

pub shape_of-work-in-Over : goal.shape_of-work-in-Over
shape_of-work-in-Over c = c.loop-at.invariant.same

pub returns-in-Over : goal.returns-in-Over
returns-in-Over c =
    c.loop-at.invariant.whole (later_long c.next_group.ensures c.in-Some.is c.loop-at.work c.in-Over.is)

pub shape_of-work-in-Large : goal.shape_of-work-in-Large
shape_of-work-in-Large c = c.loop-at.invariant.same

pub returns-in-Large : goal.returns-in-Large
returns-in-Large c = c.loop-at.invariant.whole (later_large c.next_group.ensures c.loop-at.work c.in-Large.is)
