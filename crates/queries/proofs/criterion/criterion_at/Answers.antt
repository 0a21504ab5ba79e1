-- The proof of queries::criterion::criterion_at, by answers to its goals: by the tag.
use Rattle.std.proofs.Common.{arith, refl}
use Rattle.spec_queries.specs.Bytes.{criterion_f}
use Rattle.queries.specs.PartLaws.{holds_room}
use Rattle.queries.specs.PlaceLaws.{criterion_reads}
use Rattle.queries.proofs.criterion.criterion_at.Goals as goal

pub bounds-query-at : goal.bounds-query-at
bounds-query-at c = omega (arith, holds_room criterion_f c.requires)

pub returns-then-tag-eq33 : goal.returns-then-tag-eq33
returns-then-tag-eq33 c =
    criterion_reads c.args.query.now c.args.criterion.from c.args.criterion.to refl c.if-tag-eq33.true

pub returns-then-tag-eq34 : goal.returns-then-tag-eq34
returns-then-tag-eq34 c =
    criterion_reads c.args.query.now c.args.criterion.from c.args.criterion.to refl c.if-tag-eq34.true

pub returns-then-tag-eq37 : goal.returns-then-tag-eq37
returns-then-tag-eq37 c =
    criterion_reads c.args.query.now c.args.criterion.from c.args.criterion.to refl c.if-tag-eq37.true
