-- The proof of paths::equality::gives, by answers to its goals.
use Rattle.paths.specs.EqualLaws.{gives_other, gives_same}
use Rattle.paths.proofs.equality.gives.Goals as goal

pub returns-in_default : goal.returns-in_default
returns-in_default c = λ path t g h. gives_other (c.matches_at.ensures path t g h) c.in_default.is

pub returns : goal.returns
returns c = λ path t g h. gives_same (c.matches_at.ensures path t g h) c.in-Some.is
