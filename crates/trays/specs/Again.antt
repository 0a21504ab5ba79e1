-- What the writers of a regrouping's pairs ask, and what they write.
use Rattle.std.specs.Prelude.{List, ◌++◌, map, ℕ, ◌+◌, ◌-◌, ◌≤◌, length, Ok}
use Rattle.spec_trees.specs.Limits.{work_min}
use Rattle.spec_queries.specs.Query.{Path, Pair, pair_of}
use Rattle.spec_queries.specs.Again.{again}
use Rattle.areas.specs.Area.{IsAt, Wrote}
use Rattle.areas.specs.declared.span.Span.{Span}
use Rattle.queries.specs.Places.{path_bytes, pair_bytes, pairs_bytes}
use Rattle.queries.specs.declared.stage.GroupAt.{GroupAt}

-- ---- a field twice
abbrev pub WroteTwice : (w v : List ℕ) (d : ℕ) (f : List ℕ) → Type 0
WroteTwice w v d f = Wrote w v d (length w) (f ++ f) (Ok (d + length f + length f))

-- ---- one pair: there is room for its head and the path twice
pub record PairRoom (w : List ℕ) (d : ℕ) (q : List ℕ) (target_at : Span) : Type 0 where
  pub rising : target_at.from ≤ target_at.to
  pub inside : target_at.to ≤ length q
  pub room : d + 3 + (target_at.to - target_at.from) + (target_at.to - target_at.from) ≤ length w
  pub small : length w ≤ work_min

-- whatever path stands there, it was written as source and as destination
abbrev pub PairWritten : (w v : List ℕ) (d : ℕ) (q : List ℕ) (target_at : Span) → ℕ → Type 0
PairWritten w v d q target_at r = (p : Path) → IsAt q target_at (path_bytes p) → Wrote w v d (length w) (pair_bytes (pair_of p p)) (Ok r)

-- ---- pairs, one behind another
pub record PairsRoom (w : List ℕ) (d : ℕ) (q : List ℕ) (pairs_at : Span) : Type 0 where
  pub pairs : List Pair
  pub pairs_is : IsAt q pairs_at (pairs_bytes pairs)
  pub room : d + length (pairs_bytes (map again pairs)) ≤ length w
  pub small : length w ≤ work_min

abbrev pub PairsWritten : (w v : List ℕ) (d : ℕ) (q : List ℕ) (pairs_at : Span) → ℕ → Type 0
PairsWritten w v d q pairs_at r = (ps : List Pair) → IsAt q pairs_at (pairs_bytes ps) → Wrote w v d (length w) (pairs_bytes (map again ps)) (Ok r)

-- ---- those of a group
pub record GroupRoom (w q : List ℕ) (at : GroupAt) : Type 0 where
  pub aggregates : List Pair
  pub aggregates_is : IsAt q at.aggregates (pairs_bytes aggregates)
  pub grouping : List Pair
  pub grouping_is : IsAt q at.keys (pairs_bytes grouping)
  pub room : length (pairs_bytes (map again aggregates)) + length (pairs_bytes (map again grouping)) ≤ length w
  pub small : length w ≤ work_min

-- whatever pairs stand there, they stand in v as those of the regrouping
pub record GroupAgain (v : List ℕ) (ag gs : List Pair) (at : GroupAt) : Type 0 where
  pub aggregates_is : IsAt v at.aggregates (pairs_bytes (map again ag))
  pub grouping_is : IsAt v at.keys (pairs_bytes (map again gs))

abbrev pub GroupWritten : (v q : List ℕ) (at : GroupAt) → GroupAt → Type 0
GroupWritten v q at r = (ag gs : List Pair) → IsAt q at.aggregates (pairs_bytes ag) → IsAt q at.keys (pairs_bytes gs) → GroupAgain v ag gs r
