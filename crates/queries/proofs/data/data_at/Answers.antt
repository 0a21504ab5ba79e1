-- The proof of queries::data::data_at, by answers to its goals: by the tag.
use Rattle.std.proofs.Common.{arith, refl}
use Rattle.spec_queries.specs.Bytes.{data_f}
use Rattle.queries.specs.PartLaws.{holds_room}
use Rattle.queries.specs.PlaceLaws.{data_reads}
use Rattle.queries.proofs.data.data_at.Goals as goal

pub bounds-query-at : goal.bounds-query-at
bounds-query-at c = omega (arith, holds_room data_f c.requires)

pub returns-then-tag-eq40 : goal.returns-then-tag-eq40
returns-then-tag-eq40 c =
    data_reads c.args.query.now c.args.datum.from c.args.datum.to refl refl refl c.if-tag-eq40.true

pub returns-then-tag-eq41 : goal.returns-then-tag-eq41
returns-then-tag-eq41 c =
    data_reads c.args.query.now c.args.datum.from c.args.datum.to refl refl refl c.if-tag-eq41.true

pub returns-then-tag-eq42 : goal.returns-then-tag-eq42
returns-then-tag-eq42 c =
    data_reads c.args.query.now c.args.datum.from c.args.datum.to refl refl refl c.if-tag-eq42.true

pub returns-then-tag-eq43 : goal.returns-then-tag-eq43
returns-then-tag-eq43 c =
    data_reads c.args.query.now c.args.datum.from c.args.datum.to refl refl refl c.if-tag-eq43.true
