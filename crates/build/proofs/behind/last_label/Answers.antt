-- The proof of build::behind::last_label, by answers to its goals: what is right from the label that was read last
-- is right for all.
use Rattle.std.proofs.Common.{arith, refl}
use Rattle.format.specs.StandLaws.{labels_places, holds_others}
use Rattle.build.specs.BehindLaws.{last_all, last_end, last_next}
use Rattle.build.proofs.behind.last_label.Goals as goal

pub loop-at-init : goal.loop-at-init
loop-at-init c = (c.requires, λ r h. last_all c.args.area.now c.args.labels.from c.args.labels.to r h)

pub label_at-last-requires : goal.label_at-last-requires
label_at-last-requires c = omega (arith, labels_places c.loop-at.invariant.0 c.loop-at-test.true refl)

pub field_end-at-requires : goal.field_end-at-requires
field_end-at-requires c = omega (arith, labels_places c.loop-at.invariant.0 c.loop-at-test.true refl)

pub loop-at-smaller : goal.loop-at-smaller
loop-at-smaller c = omega (arith, labels_places c.loop-at.invariant.0 c.loop-at-test.true c.field_end-at.ensures)

pub loop-at-preserved : goal.loop-at-preserved
loop-at-preserved c = (
  holds_others c.loop-at.invariant.0 c.loop-at-test.true c.field_end-at.ensures,
  λ r h. c.loop-at.invariant.1 r
      (last_next c.args.area.now c.loop-at.at c.args.labels.to c.loop-at.last c.loop-at-test.true c.field_end-at.ensures
      c.label_at-last.ensures r h),
)

pub returns : goal.returns
returns c =
    c.loop-at.invariant.1 _ (last_end c.args.area.now c.loop-at.at c.args.labels.to c.loop-at.last c.loop-at-test.false)
