-- The proof of paths::hash::hash_byte, by answers to its goals.
use Rattle.std.proofs.Common.{arith, ap, ◌+◌, ◌*◌, ◌%◌}
use Rattle.paths.specs.Hash.{hash_limit, hash_times, step_hash}
use Rattle.paths.proofs.hash.hash_byte.Goals as goal

pub returns : goal.returns
unfolding step_hash
returns c = (omega arith, ap (λ b. (c.args.number * hash_times + b) % hash_limit) c.wide.ensures.0)
