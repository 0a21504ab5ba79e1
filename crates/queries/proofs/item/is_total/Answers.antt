-- The proof of queries::item::is_total, by answers to its goals.
use Rattle.std.proofs.Common.{arith}
use Rattle.spec_queries.specs.Bytes.{pair_f}
use Rattle.queries.specs.PartLaws.{holds_room}
use Rattle.queries.specs.PlaceLaws.{total_reads}
use Rattle.queries.proofs.item.is_total.Goals as goal

pub bounds-query-at : goal.bounds-query-at
bounds-query-at c = omega (arith, holds_room pair_f c.requires)

pub returns : goal.returns
returns c = total_reads
