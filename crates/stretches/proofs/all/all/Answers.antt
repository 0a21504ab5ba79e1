-- The proof of stretches::all::all, by answers to its goals.
use Rattle.stretches.specs.AllLaws.{all_first, all_later, all_runs}
use Rattle.stretches.proofs.all.all.Goals as goal

pub first-held-requires : goal.first-held-requires
first-held-requires c = all_first c.stages_of-stages.ensures c.requires.0 c.args.work.now c.requires.1

pub later-requires : goal.later-requires
later-requires c =
    all_later c.stages_of-stages.ensures c.requires.0 c.args.work.now c.requires.1 c.first-held.auto.work
    c.first-held.ensures

pub returns : goal.returns
returns c =
    all_runs c.stages_of-stages.ensures c.requires.0 c.args.work.now c.requires.1 c.first-held.auto.work
    c.first-held.ensures c.later.ensures
