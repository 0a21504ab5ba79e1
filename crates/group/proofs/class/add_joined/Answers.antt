-- The proof of group::class::add_joined, by answers to its goals.
use Rattle.std.proofs.Common.{arith, ◌∙◌}
use Rattle.queries.specs.PartLaws.{holds_of}
use Rattle.group.specs.Grow.{joined_value, Always, ClassAt}
use Rattle.group.specs.PairLaws.{class_sound, target_along, target_places, value_ready, part_adding, part_grows, aggregate_ready, aggregate_values}
use Rattle.group.proofs.class.add_joined.Goals as goal

pub pair_at-at-requires : goal.pair_at-at-requires
pair_at-at-requires c = holds_of c.requires.asked

pub heads_room-n-requires : goal.heads_room-n-requires
heads_room-n-requires c = target_along (ClassAt c.args.members c.args.built.from) Always c.requires c.pair_at-at.ensures

pub overflow_add-inner : goal.overflow_add-inner
overflow_add-inner c =
    omega (
      arith,
      (target_places (ClassAt c.args.members c.args.built.from) Always c.requires c.pair_at-at.ensures),
      c.heads_room-n.ensures,
    )

pub write_path_over-r-requires : goal.write_path_over-r-requires
write_path_over-r-requires c =
    aggregate_ready c.pair_at-at.ensures c.requires c.heads_room-n.result (omega (
      arith,
      c.heads_room-n.ensures,
      (target_places (ClassAt c.args.members c.args.built.from) Always c.requires c.pair_at-at.ensures).0,
    ))

pub place_value-o-requires : goal.place_value-o-requires
place_value-o-requires c =
    value_ready (ClassAt c.args.members c.args.built.from) Always c.requires c.pair_at-at.ensures joined_value
    class_sound c.heads_room-n.ensures c.write_path_over-r.auto.work (aggregate_values c.pair_at-at.ensures
    c.write_path_over-r.ensures)

pub add_written-requires : goal.add_written-requires
add_written-requires c =
    part_adding (ClassAt c.args.members c.args.built.from) Always c.requires c.pair_at-at.ensures joined_value
    class_sound c.heads_room-n.ensures c.write_path_over-r.auto.work (aggregate_values c.pair_at-at.ensures
    c.write_path_over-r.ensures) c.place_value-o.ensures ((c.place_value-o.auto.work ∙ c.write_path_over-r.auto.work))

pub returns : goal.returns
returns c =
    part_grows (ClassAt c.args.members c.args.built.from) Always c.requires c.pair_at-at.ensures joined_value
    class_sound c.heads_room-n.ensures c.write_path_over-r.auto.work (aggregate_values c.pair_at-at.ensures
    c.write_path_over-r.ensures) c.place_value-o.ensures ((c.place_value-o.auto.work ∙ c.write_path_over-r.auto.work))
    c.add_written.ensures
