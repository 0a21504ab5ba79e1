-- The proof of queries::item::item_at, by answers to its goals: a keep, or else a place.
use Rattle.std.proofs.Common.{arith, refl}
use Rattle.spec_queries.specs.Bytes.{item_f}
use Rattle.queries.specs.PartLaws.{holds_room}
use Rattle.queries.specs.PlaceLaws.{item_reads, item_reads_place, item_room}
use Rattle.queries.proofs.item.item_at.Goals as goal

pub bounds-query-at : goal.bounds-query-at
bounds-query-at c = omega (arith, holds_room item_f c.requires)

pub returns-then-tag-eq47 : goal.returns-then-tag-eq47
returns-then-tag-eq47 c = item_reads c.args.query.now c.args.item.from c.args.item.to refl c.if-tag-eq47.true

pub field_end-m-requires : goal.field_end-m-requires
field_end-m-requires c = omega (arith, item_room c.requires refl c.if-tag-eq47.false)

pub returns : goal.returns
returns c = item_reads_place c.args.query.now c.args.item.from c.args.item.to c.field_end-m.ensures c.if-tag-eq47.false
