use Rattle.std.proofs.Common.{◌≡◌, ◌≤◌, ◌<◌}
use lib.Seq.{slice}
use Rattle.paths.specs.Hash.{hash_limit, bytes_hash}
use Rattle.paths.proofs.hash.hash_tree.Given as goal

abbrev pub invariant-loop-at : goal.invariant-loop-at
invariant-loop-at l =
    (l.at ≤ l.fn.tree.to) × (l.h < hash_limit) × (bytes_hash l.h (slice l.at l.fn.tree.to l.area) ≡ bytes_hash l.number (slice
    l.from l.fn.tree.to l.area))
