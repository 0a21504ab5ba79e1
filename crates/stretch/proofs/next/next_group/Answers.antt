-- The proof of stretch::next::next_group, by answers to its goals.
use Rattle.std.proofs.Common.{refl, arith}
use Rattle.stretch.specs.NextLaws.{next_end, next_places, next_stage, next_rest, next_on, next_here}
use Rattle.stretch.proofs.next.next_group.Goals as goal

pub loop-at-init : goal.loop-at-init
loop-at-init c = (c.requires, λ r k. k)

pub field_end-m-requires : goal.field_end-m-requires
field_end-m-requires c =
    let n = next_places c.loop-at-test.true refl c.loop-at.invariant.0 in
    omega (arith, n)

pub stage_at-stage-requires : goal.stage_at-stage-requires
stage_at-stage-requires c = next_stage c.loop-at-test.true c.field_end-m.ensures c.loop-at.invariant.0

pub returns-in-Some : goal.returns-in-Some
returns-in-Some c =
    c.loop-at.invariant.1 _ (next_here c.loop-at-test.true c.field_end-m.ensures c.stage_at-stage.ensures
    c.group.ensures c.in-Some.is)

pub loop-at-smaller : goal.loop-at-smaller
loop-at-smaller c =
    let n = (next_places c.loop-at-test.true c.field_end-m.ensures c.loop-at.invariant.0) in
    omega (arith, n)

pub loop-at-preserved : goal.loop-at-preserved
loop-at-preserved c = (
  next_rest c.loop-at-test.true c.field_end-m.ensures c.loop-at.invariant.0,
  λ r k. c.loop-at.invariant.1 r (next_on
      c.loop-at-test.true c.field_end-m.ensures c.stage_at-stage.ensures c.group.ensures c.in_default.is r k),
)

pub returns : goal.returns
returns c = c.loop-at.invariant.1 _ (next_end c.loop-at-test.false)
