-- The proof of key_index::enter::head_of, by answers to its goals.
use Rattle.std.proofs.Common.{arith, ap, ◌%◌}
use Rattle.key_index.specs.Index.{head_at, slots}
use Rattle.key_index.proofs.enter.head_of.Goals as goal

pub returns : goal.returns
returns c = (omega arith, omega arith, λ gs t h k. ap (λ n. head_at (n % slots)) (c.key_hash.ensures.0 gs t h k))
