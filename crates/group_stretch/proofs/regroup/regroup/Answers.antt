-- The proof of group_stretch::regroup::regroup, by answers to its goals: what is right for the classes that are left
-- is right for all.
use Rattle.std.proofs.Common.{arith, refl, sym, ◌∙◌}
use Rattle.group_stretch.specs.GroupLaws as law
use Rattle.group_stretch.proofs.regroup.regroup.Goals as goal

pub loop-from-init : goal.loop-from-init
loop-from-init c = law.group_begin c.requires

pub field_end-m-requires : goal.field_end-m-requires
field_end-m-requires c = omega (arith, (law.group_places c.requires c.loop-from.invariant c.loop-from-test.true refl))

pub two_at-position-requires : goal.two_at-position-requires
two_at-position-requires c =
    omega (arith, (law.group_places c.requires c.loop-from.invariant c.loop-from-test.true refl))

pub class_end-end-requires : goal.class_end-end-requires
class_end-end-requires c = law.group_ends c.requires c.loop-from.invariant c.loop-from-test.true c.field_end-m.ensures

pub slice_bounds-feed_class-end-in-loop-from : goal.slice_bounds-feed_class-end-in-loop-from
slice_bounds-feed_class-end-in-loop-from c = sym (law.group_lent c.requires c.loop-from.invariant)

pub feed_class-next-requires : goal.feed_class-next-requires
feed_class-next-requires c =
    law.group_class c.requires c.loop-from.invariant c.loop-from-test.true c.field_end-m.ensures c.class_end-end.ensures

pub shape_of-work-then-is_large : goal.shape_of-work-then-is_large
shape_of-work-then-is_large c =
    law.group_back c.requires c.loop-from.invariant c.loop-from-test.true c.field_end-m.ensures c.class_end-end.ensures
    c.feed_class-next.auto.work c.feed_class-next.ensures

pub returns-then-is_large : goal.returns-then-is_large
returns-then-is_large c =
    law.group_stop c.requires c.loop-from.invariant c.loop-from-test.true c.field_end-m.ensures c.class_end-end.ensures
    c.feed_class-next.auto.work c.feed_class-next.ensures _ (sym c.is_large.ensures ∙ c.if-is_large.true)

pub mark_since-requires : goal.mark_since-requires
mark_since-requires c = (
  law.group_since c.requires c.loop-from.invariant c.loop-from-test.true c.field_end-m.ensures
      c.class_end-end.ensures c.feed_class-next.auto.work c.feed_class-next.ensures,
  law.group_position c.requires
      c.loop-from.invariant c.loop-from-test.true c.field_end-m.ensures c.two_at-position.ensures.0,
)

pub loop-from-smaller : goal.loop-from-smaller
loop-from-smaller c =
    omega (
      arith,
      law.group_less c.requires c.loop-from.invariant c.loop-from-test.true c.field_end-m.ensures
          c.class_end-end.ensures,
    )

pub loop-from-preserved : goal.loop-from-preserved
loop-from-preserved c =
    law.group_again c.requires c.loop-from.invariant c.loop-from-test.true c.field_end-m.ensures c.class_end-end.ensures
    c.feed_class-next.auto.work c.feed_class-next.ensures c.mark_since.auto.work c.two_at-position.ensures.0
    c.mark_since.ensures (sym c.is_large.ensures ∙ c.if-is_large.false)

pub returns : goal.returns
returns c = law.group_end c.requires c.loop-from.invariant c.loop-from-test.false
