-- The proof of key_index::enter::link, by answers to its goals.
use Rattle.std.proofs.Common.{arith}
use Rattle.key_index.specs.EnteringLaws.{stored_not, stored_put}
use Rattle.key_index.proofs.enter.link.Goals as goal

pub overflow_sub-like : goal.overflow_sub-like
overflow_sub-like c = omega (arith, c.requires.1 _ c.in-Some.is)

pub put_two-requires : goal.put_two-requires
put_two-requires c = (omega (arith, c.requires.0, c.requires.1 _ c.in-Some.is), omega (arith, c.requires.2))

pub returns-in-Some : goal.returns-in-Some
returns-in-Some c =
    λ y h. let k = h.there _ c.in-Some.is in
    rw (← k.0) (stored_put k.1 (omega (arith, c.requires.0, c.requires.1 _ c.in-Some.is)) (omega (
      arith,
      c.requires.1 _
          c.in-Some.is,
    )) c.put_two.ensures)

pub returns-in_default : goal.returns-in_default
returns-in_default c = λ y h. stored_not _ _ _ (λ n. n (h.missing c.in_default.is))
