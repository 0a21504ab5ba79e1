-- The proof of key_index::enter::mark_of, by answers to its goals.
use Rattle.std.proofs.Common.{arith, ◌∙◌}
use Rattle.key_index.specs.EnteringLaws.{mark_first, mark_later, sum_small}
use Rattle.key_index.proofs.enter.mark_of.Goals as goal

pub subset-requires : goal.subset-requires
subset-requires c = c.requires

pub returns-in-Some : goal.returns-in-Some
returns-in-Some c = (omega arith, λ gs t h k n like. mark_later _ n (λ z. (like.there _ c.in-Some.is).1 ((like.there _ c.in-Some.is).0 ∙ z)))

pub returns-in-None : goal.returns-in-None
returns-in-None c = (
  omega (
    arith,
    sum_small c.requires.0.value c.requires.1.value c.requires.0.allowed,
    c.subset.ensures
        c.requires.0.value c.requires.1.value c.requires.0.value_is c.requires.1.value_is,
  ),
  λ gs t h k n like. c.subset.ensures gs
      t h k ∙ mark_first _ n (like.missing c.in-None.is),
)
