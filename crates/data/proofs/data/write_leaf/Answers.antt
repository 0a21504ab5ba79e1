-- The proof of data::data::write_leaf, by answers to its goals: a root takes as many bytes when it is divided.
use Rattle.std.proofs.Common.{arith, ◌+◌}
use Rattle.data.specs.WritePathLaws.{wrote_kept, kept_same, kept_more, leaf_large, leaf_plain, leaf_room, leaf_other, leaf_integer, leaf_reduced}
use Rattle.data.proofs.data.write_leaf.Goals as goal
use Rattle.areas.specs.AreaLaws.{handed_on}

pub copy-requires : goal.copy-requires
copy-requires c = (omega (arith, c.requires.tree.value_is.ends), c.requires.below, c.requires.room, c.requires.area)

pub returns-in_err-e : goal.returns-in_err-e
returns-in_err-e c =
    rw (handed_on _ c.from_residual.result c.from_residual.ensures.1) ((
      kept_same c.in_err-e.was (wrote_kept c.copy.result (omega (arith, c.requires.room, c.requires.area))
          c.requires.room c.copy.ensures),
      leaf_large c.args.work.now c.copy.new.work c.args.tree.from c.args.tree.to
          c.args.room.from c.args.room.to c.args.divisor c.copy.ensures c.in_err-e.was,
    ))

pub returns-then-divisor-eq0 : goal.returns-then-divisor-eq0
returns-then-divisor-eq0 c = (
  kept_same c.in_ok-e.was (wrote_kept c.copy.result (omega (arith, c.requires.room, c.requires.area)) c.requires.room
      c.copy.ensures),
  leaf_plain c.args.work.now c.copy.new.work c.args.tree.from c.args.tree.to c.args.room.from
      c.args.room.to c.args.divisor c.copy.ensures c.in_ok-e.was c.if-divisor-eq0.true,
)

pub bounds-work-at : goal.bounds-work-at
bounds-work-at c =
    omega (
      arith,
      leaf_room c.args.work.now c.copy.new.work c.args.tree.from c.args.tree.to c.args.room.from
          c.args.room.to c.args.divisor c.copy.ensures c.in_ok-e.was (omega (arith, c.requires.room, c.requires.area))
          c.requires.tree,
    )

pub returns-then-work-at-ne5 : goal.returns-then-work-at-ne5
returns-then-work-at-ne5 c = (
  kept_same c.in_ok-e.was (wrote_kept c.copy.result (omega (arith, c.requires.room, c.requires.area)) c.requires.room
      c.copy.ensures),
  leaf_other c.args.work.now c.copy.new.work c.args.tree.from c.args.tree.to c.args.room.from
      c.args.room.to c.args.divisor c.copy.ensures c.in_ok-e.was (omega (arith, c.requires.room, c.requires.area))
      c.if-divisor-eq0.false c.if-work-at-ne5.true,
)

pub reduce_at-requires : goal.reduce_at-requires
reduce_at-requires c = (
  leaf_integer c.args.work.now c.copy.new.work c.args.tree.from c.args.tree.to c.args.room.from c.args.room.to
      c.args.divisor c.copy.ensures c.in_ok-e.was (omega (arith, c.requires.room, c.requires.area)) c.requires.tree
      c.if-work-at-ne5.false,
  omega (arith, c.if-divisor-eq0.false),
  c.requires.divisor,
)

pub returns : goal.returns
returns c = (
  kept_more (c.args.room.from + 6) (omega arith) c.reduce_at.ensures.0 (kept_same c.in_ok-e.was (wrote_kept
      c.copy.result (omega (arith, c.requires.room, c.requires.area)) c.requires.room c.copy.ensures)),
  leaf_reduced
      c.args.work.now c.copy.new.work c.args.tree.from c.args.tree.to c.args.room.from c.args.room.to c.args.divisor
      c.copy.ensures c.in_ok-e.was (omega (arith, c.requires.room, c.requires.area)) c.if-divisor-eq0.false
      c.if-work-at-ne5.false c.reduce_at.ensures.1,
)
