-- The proof of trays::tray_group::regroups, by answers to its goals.
use Rattle.trays.specs.TrayGroupLaws.{group_held, regroups_not, regroups_is}
use Rattle.trays.proofs.tray_group.regroups.Goals as goal

pub no_totals-requires : goal.no_totals-requires
no_totals-requires c = search (group_held c.requires)

pub returns-then-not-no_totals : goal.returns-then-not-no_totals
returns-then-not-no_totals c = regroups_not c.args.query.now c.args.group c.no_totals.ensures (c.if-not-no_totals.true)

pub returns : goal.returns
returns c = regroups_is c.args.query.now c.args.group c.no_totals.ensures (c.if-not-no_totals.false) c.distinct.ensures
