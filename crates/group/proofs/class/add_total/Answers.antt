-- The proof of group::class::add_total, by answers to its goals.
use Rattle.std.proofs.Common.{arith, ◌∙◌}
use Rattle.queries.specs.PartLaws.{holds_of}
use Rattle.group.specs.Grow.{total_value, TotalFits, ClassAt}
use Rattle.group.specs.PairLaws.{total_sound, target_along, target_places, value_ready, part_adding, part_grows, total_walk, total_values}
use Rattle.group.proofs.class.add_total.Goals as goal

pub pair_at-at-requires : goal.pair_at-at-requires
pair_at-at-requires c = holds_of c.requires.asked

pub heads_room-n-requires : goal.heads_room-n-requires
heads_room-n-requires c =
    target_along (ClassAt c.args.members c.args.built.from) TotalFits c.requires c.pair_at-at.ensures

pub total_over-total-requires : goal.total_over-total-requires
total_over-total-requires c = (total_walk c.pair_at-at.ensures c.requires, c.requires.small)

pub overflow_add-from-2 : goal.overflow_add-from-2
overflow_add-from-2 c =
    omega (
      arith,
      (target_places (ClassAt c.args.members c.args.built.from) TotalFits c.requires c.pair_at-at.ensures),
      c.heads_room-n.ensures,
    )

pub write_total-r-requires : goal.write_total-r-requires
write_total-r-requires c = (
  c.total_over-total.ensures.sound,
  omega (
    arith,
    (target_places (ClassAt c.args.members c.args.built.from) TotalFits
        c.requires c.pair_at-at.ensures),
    c.heads_room-n.ensures,
  ),
  omega (arith, c.requires.room),
  c.requires.small,
)

pub place_value-o-requires : goal.place_value-o-requires
place_value-o-requires c =
    value_ready (ClassAt c.args.members c.args.built.from) TotalFits c.requires c.pair_at-at.ensures total_value
    total_sound c.heads_room-n.ensures c.write_total-r.auto.work (total_values c.pair_at-at.ensures
    c.total_over-total.ensures c.write_total-r.ensures)

pub add_written-requires : goal.add_written-requires
add_written-requires c =
    part_adding (ClassAt c.args.members c.args.built.from) TotalFits c.requires c.pair_at-at.ensures total_value
    total_sound c.heads_room-n.ensures c.write_total-r.auto.work (total_values c.pair_at-at.ensures
    c.total_over-total.ensures c.write_total-r.ensures) c.place_value-o.ensures ((c.place_value-o.auto.work ∙
    c.write_total-r.auto.work))

pub returns : goal.returns
returns c =
    part_grows (ClassAt c.args.members c.args.built.from) TotalFits c.requires c.pair_at-at.ensures total_value
    total_sound c.heads_room-n.ensures c.write_total-r.auto.work (total_values c.pair_at-at.ensures
    c.total_over-total.ensures c.write_total-r.ensures) c.place_value-o.ensures ((c.place_value-o.auto.work ∙
    c.write_total-r.auto.work)) c.add_written.ensures
