-- The proof of arrange::arrange::place, by answers to its goals.
use Rattle.arrange.specs.FrontLaws.{grows_one}
use Rattle.arrange.proofs.arrange.place.Goals as goal

pub returns : goal.returns
returns c =
    grows_one c.requires.0 c.requires.2 c.copy_down.ensures c.copy_down.auto.work c.put_two.ensures c.put_two.auto.work
