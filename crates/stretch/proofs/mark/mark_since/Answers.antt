-- The proof of stretch::mark::mark_since, by answers to its goals.
use Rattle.stretch.specs.CarryLaws.{since_marked, over_len, large_len, since_none}
use Rattle.stretch.proofs.mark.mark_since.Goals as goal

pub mark-requires : goal.mark-requires
mark-requires c = (c.requires.0 _ _ c.in-Len.is c.in-Len-after.is, c.requires.1)

pub returns-in-Len-after : goal.returns-in-Len-after
returns-in-Len-after c = since_marked c.in-Len.is c.in-Len-after.is c.mark.ensures

pub returns-in-Over-after : goal.returns-in-Over-after
returns-in-Over-after c = since_none _ _ _ _ (λ a b y z. over_len c.in-Over-after.is z)

pub returns-in-Large-after : goal.returns-in-Large-after
returns-in-Large-after c = since_none _ _ _ _ (λ a b y z. large_len c.in-Large-after.is z)

pub returns-in-Over : goal.returns-in-Over
returns-in-Over c = since_none _ _ _ _ (λ a b y z. over_len c.in-Over.is y)

pub returns-in-Large : goal.returns-in-Large
returns-in-Large c = since_none _ _ _ _ (λ a b y z. large_len c.in-Large.is y)
