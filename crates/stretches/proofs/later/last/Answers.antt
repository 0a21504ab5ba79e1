-- The proof of stretches::later::last, by answers to its goals.
use Rattle.stretches.specs.LaterLaws.{last_held, last_full, last_large}
use Rattle.stretches.proofs.later.last.Goals as goal

pub returns-in-Len : goal.returns-in-Len
returns-in-Len c = last_held c.in-Len.is

pub returns-in-Over : goal.returns-in-Over
returns-in-Over c = last_full c.in-Over.is

pub returns-in-Large : goal.returns-in-Large
returns-in-Large c = last_large c.in-Large.is
