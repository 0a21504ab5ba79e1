-- The proof of trays::tray_group::distinct, by answers to its goals.
use Rattle.trays.specs.TrayGroupLaws.{group_aggregates, group_keys, group_none, distinct_not, distinct_is}
use Rattle.trays.proofs.tray_group.distinct.Goals as goal

pub apart-requires : goal.apart-requires
apart-requires c = (group_aggregates c.requires, group_keys c.requires)

pub returns-then-not-apart : goal.returns-then-not-apart
returns-then-not-apart c = distinct_not c.apart.ensures (c.if-not-apart.true)

pub apart-requires-2 : goal.apart-requires-2
apart-requires-2 c = (group_keys c.requires, group_none c.requires)

pub returns : goal.returns
returns c = distinct_is c.requires c.apart.ensures (c.if-not-apart.false) c.apart-2.ensures
