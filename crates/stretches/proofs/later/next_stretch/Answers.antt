-- The proof of stretches::later::next_stretch, by answers to its goals.
use Rattle.stretches.specs.LaterLaws.{held_collected, held_classes, held_aggregates, held_overflow, held_group, held_post}
use Rattle.stretches.proofs.later.next_stretch.Goals as goal

pub arrange-requires : goal.arrange-requires
arrange-requires c = held_collected c.requires

pub totals_fit-requires : goal.totals_fit-requires
totals_fit-requires c = (
  held_classes c.requires c.arrange.auto.work c.arrange.ensures,
  held_aggregates c.requires c.arrange.auto.work
      c.arrange.ensures,
)

pub returns-then-not-totals_fit : goal.returns-then-not-totals_fit
returns-then-not-totals_fit c =
    held_overflow c.requires c.arrange.auto.work c.arrange.ensures c.totals_fit.ensures (c.if-not-totals_fit.true)

pub regroup-requires : goal.regroup-requires
regroup-requires c =
    held_group c.requires c.arrange.auto.work c.arrange.ensures c.totals_fit.ensures (c.if-not-totals_fit.false)

pub returns : goal.returns
returns c =
    held_post c.requires c.arrange.auto.work c.arrange.ensures c.totals_fit.ensures (c.if-not-totals_fit.false)
    c.regroup.new.work c.regroup.result c.regroup.ensures
