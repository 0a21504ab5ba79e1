-- The proof of queries::criterion::two_at, by answers to its goals: by the tag, each of the four.
use Rattle.std.proofs.Common.{arith, refl}
use Rattle.spec_queries.specs.Bytes.{criterion_f}
use Rattle.queries.specs.PartLaws.{holds_room}
use Rattle.queries.specs.PlaceLaws.{criterion_reads, criterion_reads_either, criterion_room}
use Rattle.queries.proofs.criterion.two_at.Goals as goal

pub bounds-query-at : goal.bounds-query-at
bounds-query-at c = omega (arith, holds_room criterion_f c.requires.0)

pub field_end-m-requires : goal.field_end-m-requires
field_end-m-requires c = omega (arith, criterion_room c.requires.0 refl c.requires.1 c.requires.2 c.requires.3)

pub overflow_add-result : goal.overflow_add-result
overflow_add-result c =
    omega (arith, criterion_room c.requires.0 c.field_end-m.ensures c.requires.1 c.requires.2 c.requires.3)

pub returns-then-tag-eq35 : goal.returns-then-tag-eq35
returns-then-tag-eq35 c =
    criterion_reads c.args.query.now c.args.criterion.from c.args.criterion.to c.field_end-m.ensures c.if-tag-eq35.true

pub returns-then-tag-eq36 : goal.returns-then-tag-eq36
returns-then-tag-eq36 c =
    criterion_reads c.args.query.now c.args.criterion.from c.args.criterion.to c.field_end-m.ensures c.if-tag-eq36.true

pub returns-then-tag-eq38 : goal.returns-then-tag-eq38
returns-then-tag-eq38 c =
    criterion_reads c.args.query.now c.args.criterion.from c.args.criterion.to c.field_end-m.ensures c.if-tag-eq38.true

pub returns : goal.returns
returns c =
    criterion_reads_either c.args.query.now c.args.criterion.from c.args.criterion.to c.field_end-m.ensures c.requires.1
    c.requires.2 c.requires.3 c.if-tag-eq35.false c.if-tag-eq36.false c.if-tag-eq38.false
