-- The proof of certificate::alone::alone, by answers to its goals.
use Rattle.certificate.specs.AloneLaws.{alone_gives}
use Rattle.certificate.proofs.alone.alone.Goals as goal

pub returns : goal.returns
returns c = alone_gives c.run.ensures
