-- The proof of build::part::begin, by answers to its goals.
use Rattle.build.specs.MadeLaws.{begun}
use Rattle.build.proofs.part.begin.Goals as goal

pub returns : goal.returns
returns c = begun c.put_void.ensures
