-- The proof of project::project::project, by answers to its goals: what is built from the item at `from` on, onto the
-- tree so far, is what is built from all.
use Rattle.std.proofs.Common.{arith, refl, ◌∙◌}
use Rattle.project.specs.ProjectLaws.{project_begun, project_from, items_done, items_places, items_first, items_rest, items_stop, items_next}
use Rattle.project.proofs.project.project.Goals as goal
use Rattle.std.specs.Prelude.{Ok, Err}
use Rattle.areas.specs.Area.{too_large}
use Rattle.areas.specs.AreaLaws.{handed_on}

pub begin-to-requires : goal.begin-to-requires
begin-to-requires c = omega (arith, c.requires.room)

pub loop-from-init : goal.loop-from-init
loop-from-init c = (project_begun c.requires c.begin-to.ensures c.begin-to.auto.work, refl, λ v r h. h)

pub field_end-m-requires : goal.field_end-m-requires
field_end-m-requires c = omega (arith, items_places c.loop-from-test.true refl c.loop-from.invariant.0)

pub add_item-requires : goal.add_item-requires
add_item-requires c = items_first c.loop-from-test.true c.field_end-m.ensures c.loop-from.invariant.0

pub returns-in_err-e : goal.returns-in_err-e
returns-in_err-e c =
    rw (handed_on _ c.from_residual.result c.from_residual.ensures.1) (project_from c.requires c.begin-to.ensures c.add_item.new.work (Err too_large) (c.loop-from.invariant.2
    c.add_item.new.work (Err too_large) (items_stop c.loop-from-test.true c.field_end-m.ensures c.add_item.ensures
    c.in_err-e.was)))

pub loop-from-smaller : goal.loop-from-smaller
loop-from-smaller c = omega (arith, items_places c.loop-from-test.true c.field_end-m.ensures c.loop-from.invariant.0)

pub loop-from-preserved : goal.loop-from-preserved
loop-from-preserved c = (
  items_rest c.loop-from-test.true c.field_end-m.ensures c.loop-from.invariant.0 c.add_item.ensures c.in_ok-e.was
      c.add_item.auto.work,
  c.add_item.auto.work ∙ c.loop-from.invariant.1,
  λ v r h. c.loop-from.invariant.2 v r
      (items_next c.loop-from-test.true c.field_end-m.ensures c.add_item.ensures c.loop-from.invariant.0.below
      c.in_ok-e.was v r h),
)

pub returns : goal.returns
returns c =
    project_from c.requires c.begin-to.ensures c.loop-from.work (Ok c.loop-from.to) (c.loop-from.invariant.2
    c.loop-from.work (Ok c.loop-from.to) (items_done c.loop-from-test.false))
