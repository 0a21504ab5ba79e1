-- The proof of group::class::class_tree, by answers to its goals.
use Rattle.std.proofs.Common.{arith}
use Rattle.group.specs.ClassLaws.{class_ready, class_stop, identities_ready, class_made}
use Rattle.group.proofs.class.class_tree.Goals as goal
use Rattle.areas.specs.AreaLaws.{handed_on}

pub begin-requires : goal.begin-requires
begin-requires c = omega (arith, c.requires.room)

pub add_aggregates-requires : goal.add_aggregates-requires
add_aggregates-requires c = class_ready c.requires c.begin.auto.work c.begin.ensures

pub returns-in_err-to : goal.returns-in_err-to
returns-in_err-to c =
    rw (handed_on _ c.from_residual.result c.from_residual.ensures.1) (class_stop c.requires c.begin.auto.work c.begin.ensures c.add_aggregates.ensures c.in_err-to.was)

pub add_identities-requires : goal.add_identities-requires
add_identities-requires c =
    identities_ready c.requires c.begin.auto.work c.begin.ensures c.add_aggregates.ensures c.in_ok-to.was
    c.add_aggregates.auto.work

pub returns : goal.returns
returns c =
    class_made c.requires c.begin.auto.work c.begin.ensures c.add_aggregates.ensures c.in_ok-to.was
    c.add_identities.ensures
