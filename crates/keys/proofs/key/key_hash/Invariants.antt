use Rattle.std.proofs.Common.{ℕ, ◌<◌}
use Rattle.format.specs.Stand.{Holds}
use Rattle.queries.specs.Places.{pairs_bytes}
use Rattle.areas.specs.Area.{span}
use Rattle.format.specs.Fields.{Going}
use Rattle.paths.specs.Hash.{hash_limit}
use Rattle.keys.specs.KeyHash.{KeyHashFrom, KeyHashIs}
use Rattle.keys.proofs.key.key_hash.Given as goal

abbrev pub invariant-loop-pair : goal.invariant-loop-pair
invariant-loop-pair l =
    Going l.query l.fn.keys.to (λ at. Holds pairs_bytes l.query at l.fn.keys.to × (l.h < hash_limit) × ((k : ℕ) → KeyHashFrom l.h l.query (span at l.fn.keys.to)
    l.area l.tree k → KeyHashIs l.query l.fn.keys l.area l.tree k)) l.pair-iterator
