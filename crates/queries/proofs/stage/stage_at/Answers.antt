-- The proof of queries::stage::stage_at, by answers to its goals: by the tag.
use Rattle.std.proofs.Common.{arith, refl}
use Rattle.spec_queries.specs.Bytes.{stage_f}
use Rattle.queries.specs.PartLaws.{holds_room}
use Rattle.queries.specs.PlaceLaws.{stage_reads}
use Rattle.queries.proofs.stage.stage_at.Goals as goal

pub bounds-query-at : goal.bounds-query-at
bounds-query-at c = omega (arith, holds_room stage_f c.requires)

pub returns-then-tag-eq17 : goal.returns-then-tag-eq17
returns-then-tag-eq17 c = stage_reads c.args.query.now c.args.stage.from c.args.stage.to refl refl c.if-tag-eq17.true

pub returns-then-tag-eq18 : goal.returns-then-tag-eq18
returns-then-tag-eq18 c = stage_reads c.args.query.now c.args.stage.from c.args.stage.to refl refl c.if-tag-eq18.true

pub returns-then-tag-eq19 : goal.returns-then-tag-eq19
returns-then-tag-eq19 c = stage_reads c.args.query.now c.args.stage.from c.args.stage.to refl refl c.if-tag-eq19.true
