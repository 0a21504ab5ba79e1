-- The proof of positions::entries::write_entries, by answers to its goals: what is right for the trees that are left is
-- right for all.
use Rattle.std.proofs.Common.{refl, arith}
use Rattle.positions.specs.BearingLaws.{standing_places}
use Rattle.positions.specs.EntriesLaws as law
use Rattle.positions.proofs.entries.write_entries.Goals as goal

pub loop-at-init : goal.loop-at-init
loop-at-init c = law.entries_begin c.requires.0

pub overflow_add-at : goal.overflow_add-at
overflow_add-at c = omega (arith, standing_places c.loop-at.invariant.left c.loop-at-test.true refl)

pub field_end-m-requires : goal.field_end-m-requires
field_end-m-requires c = omega (arith, standing_places c.loop-at.invariant.left c.loop-at-test.true refl)

pub overflow_sub-m : goal.overflow_sub-m
overflow_sub-m c = omega (arith, (standing_places c.loop-at.invariant.left c.loop-at-test.true c.field_end-m.ensures))

pub position_at-requires : goal.position_at-requires
position_at-requires c = (
  (standing_places c.loop-at.invariant.left c.loop-at-test.true refl).3,
  omega (
    arith,
    (standing_places
        c.loop-at.invariant.left c.loop-at-test.true c.field_end-m.ensures),
  ),
)

pub bounds-entries-i : goal.bounds-entries-i
bounds-entries-i c = law.entry_room c.loop-at.invariant c.loop-at-test.true c.field_end-m.ensures c.requires.1

pub loop-at-smaller : goal.loop-at-smaller
loop-at-smaller c = omega (arith, (standing_places c.loop-at.invariant.left c.loop-at-test.true c.field_end-m.ensures))

pub loop-at-preserved : goal.loop-at-preserved
loop-at-preserved c =
    law.entry_again c.loop-at.invariant c.loop-at-test.true c.field_end-m.ensures c.position_at.ensures.0

pub shape_of-entries : goal.shape_of-entries
shape_of-entries c = c.loop-at.invariant.same

pub returns : goal.returns
returns c = law.stored_all c.requires.0.short c.requires.1 (law.entries_end c.loop-at.invariant c.loop-at-test.false)
