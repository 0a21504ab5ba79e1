-- The proof of format::labels::find, by answers to its goals: what is right for the labels from `at` on is right for all.
use Rattle.std.proofs.Common.{arith, refl, sym, ap, ◌∙◌, ◌+◌}
use Rattle.format.specs.StandLaws.{heads_most, labels_places, holds_others}
use Rattle.format.specs.LabelLaws.{finds_none, finds_here, finds_next}
use Rattle.format.proofs.labels.find.Goals as goal

pub loop-at-init : goal.loop-at-init
loop-at-init c = (c.requires, λ r h. h)

pub field_end-m-requires : goal.field_end-m-requires
field_end-m-requires c = omega (arith, (labels_places c.loop-at.invariant.0 c.loop-at-test.true refl))

pub label_at-requires : goal.label_at-requires
label_at-requires c = omega (arith, (labels_places c.loop-at.invariant.0 c.loop-at-test.true c.field_end-m.ensures))

pub overflow_add-from : goal.overflow_add-from
overflow_add-from c =
    omega (
      arith,
      (labels_places c.loop-at.invariant.0 c.loop-at-test.true c.field_end-m.ensures),
      c.heads.ensures,
      heads_most c.args.label,
    )

pub returns-then-label_at-label : goal.returns-then-label_at-label
returns-then-label_at-label c =
    c.loop-at.invariant.1 _ (finds_here c.args.area.now c.loop-at.at c.field_end-m.result c.args.labels.to c.args.label
    c.loop-at-test.true c.field_end-m.ensures (sym c.label_at.ensures ∙ c.if-label_at-label.true) (ap (λ i. c.loop-at.at
    + i) c.heads.ensures))

pub loop-at-smaller : goal.loop-at-smaller
loop-at-smaller c = omega (arith, (labels_places c.loop-at.invariant.0 c.loop-at-test.true c.field_end-m.ensures))

pub loop-at-preserved : goal.loop-at-preserved
loop-at-preserved c = (
  holds_others c.loop-at.invariant.0 c.loop-at-test.true c.field_end-m.ensures,
  λ r h. c.loop-at.invariant.1 r
      (finds_next c.args.area.now c.loop-at.at c.field_end-m.result c.args.labels.to c.args.label c.loop-at-test.true
      c.field_end-m.ensures r (λ q. c.if-label_at-label.false (c.label_at.ensures ∙ q)) h),
)

pub returns : goal.returns
returns c =
    c.loop-at.invariant.1 _ (finds_none c.args.area.now c.loop-at.at c.args.labels.to c.args.label c.loop-at-test.false)
