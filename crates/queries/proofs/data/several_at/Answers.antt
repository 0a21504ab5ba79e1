-- The proof of queries::data::several_at, by answers to its goals: a choice, or else a reduced.
use Rattle.std.proofs.Common.{arith, refl}
use Rattle.spec_queries.specs.Bytes.{data_f}
use Rattle.queries.specs.PartLaws.{holds_room}
use Rattle.queries.specs.PlaceLaws.{data_reads, data_reads_reduced, data_room}
use Rattle.queries.proofs.data.several_at.Goals as goal

pub bounds-query-at : goal.bounds-query-at
bounds-query-at c = omega (arith, holds_room data_f c.requires.0)

pub field_end-m-requires : goal.field_end-m-requires
field_end-m-requires c = omega (arith, data_room c.requires.0 refl c.requires.1 c.requires.2 c.requires.3 c.requires.4)

pub field_end-n-requires : goal.field_end-n-requires
field_end-n-requires c =
    omega (
      arith,
      (data_room c.requires.0 c.field_end-m.ensures c.requires.1 c.requires.2 c.requires.3
          c.requires.4).choice_within c.if-tag-eq44.true,
      (data_room c.requires.0 c.field_end-m.ensures c.requires.1
          c.requires.2 c.requires.3 c.requires.4).inside,
    )

pub returns-then-tag-eq44 : goal.returns-then-tag-eq44
returns-then-tag-eq44 c =
    data_reads c.args.query.now c.args.datum.from c.args.datum.to c.field_end-m.ensures c.field_end-n.ensures refl
    c.if-tag-eq44.true

pub divisor_at-n-requires : goal.divisor_at-n-requires
divisor_at-n-requires c =
    omega (
      arith,
      (data_room c.requires.0 c.field_end-m.ensures c.requires.1 c.requires.2 c.requires.3
          c.requires.4).reduced_within c.if-tag-eq44.false,
      (data_room c.requires.0 c.field_end-m.ensures c.requires.1
          c.requires.2 c.requires.3 c.requires.4).inside,
    )

pub returns : goal.returns
returns c =
    data_reads_reduced c.args.query.now c.args.datum.from c.args.datum.to c.field_end-m.ensures c.divisor_at-n.ensures
    c.requires.1 c.requires.2 c.requires.3 c.requires.4 c.if-tag-eq44.false
