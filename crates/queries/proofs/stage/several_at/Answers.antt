-- The proof of queries::stage::several_at, by answers to its goals: a group, or else a lookup.
use Rattle.std.proofs.Common.{arith, refl}
use Rattle.spec_queries.specs.Bytes.{stage_f}
use Rattle.queries.specs.PartLaws.{holds_room}
use Rattle.queries.specs.PlaceLaws.{stage_reads, stage_reads_lookup, stage_room}
use Rattle.queries.proofs.stage.several_at.Goals as goal

pub bounds-query-at : goal.bounds-query-at
bounds-query-at c = omega (arith, holds_room stage_f c.requires.0)

pub field_end-m-requires : goal.field_end-m-requires
field_end-m-requires c = omega (arith, stage_room c.requires.0 refl c.requires.1 c.requires.2 c.requires.3)

pub overflow_add-result-then-tag-eq20 : goal.overflow_add-result-then-tag-eq20
overflow_add-result-then-tag-eq20 c =
    omega (arith, (stage_room c.requires.0 c.field_end-m.ensures c.requires.1 c.requires.2 c.requires.3))

pub returns-then-tag-eq20 : goal.returns-then-tag-eq20
returns-then-tag-eq20 c =
    stage_reads c.args.query.now c.args.stage.from c.args.stage.to c.field_end-m.ensures refl c.if-tag-eq20.true

pub field_end-n-requires : goal.field_end-n-requires
field_end-n-requires c =
    omega (
      arith,
      (stage_room c.requires.0 c.field_end-m.ensures c.requires.1 c.requires.2 c.requires.3).lookup_within
          c.if-tag-eq20.false,
      (stage_room c.requires.0 c.field_end-m.ensures c.requires.1 c.requires.2 c.requires.3).inside,
    )

pub returns : goal.returns
returns c =
    stage_reads_lookup c.args.query.now c.args.stage.from c.args.stage.to c.field_end-m.ensures c.field_end-n.ensures
    c.requires.1 c.requires.2 c.requires.3 c.if-tag-eq20.false
